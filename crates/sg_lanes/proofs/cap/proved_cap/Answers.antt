use Rattle.std.proofs.Common.{◌∙◌, sym, subst, ◌≤ℤ◌, ℤ, All, List, Option, Some}
use Rattle.sg_model.specs.declared.limit.TheConstants.{PAYOFF_LIMIT}
use Rattle.sg_tree.specs.declared.fact.Fact.{Fact}
use Rattle.sg_lanes.specs.ProvedCaps.{AreAllFacts, IsCapFact, only_worked}
use Rattle.sg_lanes.proofs.Capping.{facts-capped}
use Rattle.sg_lanes.proofs.cap.proved_cap.Goals as goal

pub greatest_least-v-requires-clause-facts : goal.greatest_least-v-requires-clause-facts
greatest_least-v-requires-clause-facts c =
    let g = c.args.game.now in
    let s = only_worked c.args.worked.now in
    let k : AreAllFacts g s c.args.l (Some c.in-Some.proof) = subst (λ (o : Option (List Fact)). AreAllFacts g s c.args.l o) c.in-Some.is c.in_ok-all_facts.ensures in
    subst (λ (fs : List Fact). All (IsCapFact g c.args.l) fs) (sym (c.as_slice.ensures ∙ k.1))
    (facts-capped g c.requires.peopled s c.requires.results c.requires.first.0 c.requires.first.1 c.args.l c.requires.later c.requires.known.1 k.0
    (subst (λ (z : ℤ). z ≤ℤ PAYOFF_LIMIT) c.greatest-most.ensures.greatest c.greatest-most.ensures.within.at_most))
