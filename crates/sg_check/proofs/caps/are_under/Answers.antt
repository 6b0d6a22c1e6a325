use Rattle.std.proofs.Common.{◌≡◌, of_z, refl, rules, subst, to_z}
use Rattle.std.specs.List.{All}
use Rattle.std.specs.Int.{w64}
use Rattle.std.proofs.lemmas.Int.{to_z-of_z}
use Rattle.std.proofs.lemmas.List.{take_all}
use Rattle.std.proofs.lemmas.List.Elements.{All-more}
use Rattle.sg_bounds.specs.Caps.{IsUnderCap}
use Rattle.sg_check.proofs.caps.are_under.Goals as goal

pub loop-fact-preserved : goal.loop-fact-preserved
loop-fact-preserved c =
    let here = subst (IsUnderCap c.args.game.now c.args.l _) c.fact-item.is (c.if-not-is_under.ensures.0 refl) in
    All-more (IsUnderCap c.args.game.now c.args.l _) c.args.facts.now c.loop-fact.fact-index c.fact-item.result c.loop-fact-test.true c.loop-fact.invariant here

pub returns : goal.returns
returns c =
    let v : to_z w64 (of_z w64 c.args.v) ≡ c.args.v = search (rules, to_z-of_z) in
    let all = subst (All (IsUnderCap c.args.game.now c.args.l _)) (take_all c.loop-fact.fact-index c.args.facts.now c.loop-fact-test.false) c.loop-fact.invariant in
    (λ _. subst (λ z. All (IsUnderCap c.args.game.now c.args.l z) c.args.facts.now) v all, λ _. refl)
