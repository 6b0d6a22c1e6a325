use Rattle.std.proofs.lemmas.Int.{to_z-of_z}
use Rattle.sg_tree.specs.declared.fact.Fact.TheVariants.{Plays}
use Rattle.sg_bounds.specs.SizeSteps.{size_steps}
use Rattle.sg_programs.specs.Shown.{both_bounds}
use Rattle.sg_desk.proofs.Formed.{first-stops, then-second}
use Rattle.sg_desk.proofs.finishing.fact_misfit.Goals as goal

pub returns-in-Some : goal.returns-in-Some
returns-in-Some c =
    let a = c.args in
    let h = simp (to_z-of_z, c.ranges.rho) at (c.in-Some.ensures a.mu) in
    first-stops (size_steps a.game.now a.fix.now (Plays a.rho a.mu a.marks.now)) (both_bounds a.game.now a.fix.now (Plays a.rho a.mu a.marks.now)) c.in-Some.wide h

pub returns-in-None : goal.returns-in-None
returns-in-None c =
    let a = c.args in
    let h = simp (to_z-of_z, c.ranges.rho) at (c.in-None.ensures a.mu) in
    let k = simp (to_z-of_z, c.ranges.rho, c.ranges.mu) at (c.bounds_misfit.ensures a.marks.now) in
    then-second (size_steps a.game.now a.fix.now (Plays a.rho a.mu a.marks.now)) (both_bounds a.game.now a.fix.now (Plays a.rho a.mu a.marks.now)) c.bounds_misfit.result h k
