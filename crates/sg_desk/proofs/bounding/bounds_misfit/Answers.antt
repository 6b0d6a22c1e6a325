use Rattle.std.proofs.lemmas.Int.{to_z-of_z}
use Rattle.sg_tree.specs.declared.fact.Fact.TheVariants.{Plays}
use Rattle.sg_desk.proofs.Formed.{least-after, most-stops}
use Rattle.sg_desk.proofs.bounding.bounds_misfit.Goals as goal

pub returns-in-Some : goal.returns-in-Some
returns-in-Some c = λ marks.
    let h = simp (to_z-of_z, c.ranges.rho, c.ranges.mu) at (c.in-Some.ensures marks) in
    most-stops c.args.game.now c.args.fix.now (Plays c.args.rho c.args.mu marks) c.len-n.result c.in-Some.wide c.if-fix-ne1.false c.len-n.ensures h

pub returns-in-None : goal.returns-in-None
returns-in-None c = λ marks.
    let h = simp (to_z-of_z, c.ranges.rho, c.ranges.mu) at (c.in-None.ensures marks) in
    let k = simp (to_z-of_z, c.ranges.rho, c.ranges.mu) at (c.bound_misfit-in-None.ensures marks) in
    least-after c.args.game.now c.args.fix.now (Plays c.args.rho c.args.mu marks) c.len-n.result c.bound_misfit-in-None.result c.if-fix-ne1.false c.len-n.ensures h k
