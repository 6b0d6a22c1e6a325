use Rattle.std.proofs.Common.{◌∙◌, FitsSigned, ap, of_z, to_z, rules}
use Rattle.std.specs.Int.{w128}
use Rattle.std.proofs.lemmas.Int.{to_z-of_z}
use Rattle.sg_tree.specs.declared.fact.Fact.TheVariants.{Plays}
use Rattle.sg_lp.specs.Moves.{NamedStep}
use Rattle.sg_desk.specs.Ending.{DoneTells, IsStuckAt}
use Rattle.sg_desk.proofs.Answered.{IfOk-map, fact-fits, fact-is, fact-shows, stuck-tells}
use Rattle.sg_desk.proofs.run.Run.close_done.Goals as goal

pub close_with-requires-clause-fits : goal.close_with-requires-clause-fits
close_with-requires-clause-fits c =
    let rho = to_z w128 (of_z w128 c.dual_of-dual.result.rho) in
    let mu = to_z w128 (of_z w128 c.first_of-mu.result) in
    fact-fits c.args.game.now c.args.self.now.fix (Plays rho mu c.as_slice.result.now) (Plays rho mu c.in_ok-marks.marks) (ap (Plays rho mu) c.as_slice.ensures) c.in-None.ensures

pub returns-in-Some : goal.returns-in-Some
returns-in-Some c =
    let g = c.args.game.now in
    let r = c.args.self.now in
    let d = c.dual_of-dual.result in
    let rho_fits : FitsSigned w128 d.rho = search rules in
    let mu_fits : FitsSigned w128 c.first_of-mu.result = record { sfits = c.first_of-mu.type_inv } in
    let wide = simp (to_z-of_z, rho_fits, mu_fits) at c.in-Some.ensures in
    let marks = c.as_slice.ensures ∙ c.in_ok-marks.ensures in
    let fact = fact-is g r.fix r.node.tableau d.rho c.first_of-mu.result c.as_slice.result.now d.y.now c.dual_of-dual.ensures.rho c.dual_of-dual.ensures.y c.first_of-mu.ensures marks in
    let s : NamedStep = record { name = 4; step = c.in-Some.wide } in
    IfOk-map (IsStuckAt r s) (DoneTells g r) c.wide.result c.wide.ensures (stuck-tells g r s (fact-shows g r d.rho c.first_of-mu.result c.as_slice.result.now fact c.in-Some.wide wide))
