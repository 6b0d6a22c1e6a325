use Rattle.std.proofs.Common.{◌≡◌, ◌∙◌, ℤ, ap, arith, refl, rules, of_z, to_z}
use Rattle.std.specs.Int.{int_max, w64}
use Rattle.std.proofs.lemmas.Int.{int_max_is, ints, to_z-of_z}
use Rattle.sg_plays_fact.proofs.Greatests.{span-more}
use Rattle.sg_plays_fact.proofs.measures.attacker_most.Goals as goal

pub loop-l-init : goal.loop-l-init
loop-l-init c = (refl, omega (arith, ints), omega (arith, ints))

pub loop-l-preserved : goal.loop-l-preserved
loop-l-preserved c =
    let s = c.span.result in
    let m = c.greater-most.result in
    let q : ℤ = to_z w64 c.loop-l.most-bits in
    let e : to_z w64 (of_z w64 s) ≡ s = search (rules, to_z-of_z) in
    let f : to_z w64 (of_z w64 m) ≡ m = search (rules, to_z-of_z) in
    let is : m ≡ int_max q s = c.greater-most.ensures ∙ ap (int_max q) e in
    let high = int_max_is q s in (
      f ∙ is ∙ span-more c.args.game.now c.loop-l.l q s c.loop-l.invariant.0 c.span.ensures.span,
      omega (arith, ints, f, is, high, c.loop-l.invariant.1),
      omega (arith, ints, f, is, high, c.loop-l.invariant.2, c.span.ensures.few),
    )
