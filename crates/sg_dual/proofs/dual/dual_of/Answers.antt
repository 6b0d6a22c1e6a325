use Rattle.std.proofs.Common.{rules, FitsSigned, ◌∙◌, ap}
use Rattle.std.specs.Int.{w128}
use Rattle.std.proofs.lemmas.Int.{to_z-of_z}
use Rattle.sg_lp.specs.States.{Tableau}
use Rattle.sg_dual.proofs.Duality.{dual_fact}
use Rattle.sg_dual.proofs.dual.dual_of.Goals as goal

pub returns-clause-fact : goal.returns-clause-fact
returns-clause-fact g c =
    let rho : FitsSigned w128 c.rho.result = search rules in
    simp to_z-of_z (λ game fix h unscaled is_fix e.
    dual_fact (g.F.Family.program c.args.node.now.family) c.args.node.now.tableau c.state-state.ensures.kept.state c.requires game h unscaled fix is_fix e
    c.multipliers.result.now c.rho.result (c.multipliers.ensures ∙ ap (λ (t : Tableau). t.y) c.state-state.ensures.tableau) (c.rho.ensures ∙ ap (λ (t : Tableau). t.rho) c.state-state.ensures.tableau))
