use Rattle.std.proofs.Common.{◌≡◌, ◌∙◌, ◌≤◌, ◌+◌, length, ℤ, ap, arith, rules, of_z, to_z}
use Rattle.std.specs.Int.{int_max, w64}
use Rattle.std.proofs.lemmas.Int.{int_max_is, ints, to_z-of_z}
use Rattle.sg_plays_fact.proofs.Greatests.{greatest-more, greatest-one}
use Rattle.sg_plays_fact.proofs.measures.defender_greatest.Goals as goal

pub loop-l-init : goal.loop-l-init
loop-l-init c =
    let m = c.greatest-most.result in
    let f : to_z w64 (of_z w64 m) ≡ m = search (rules, to_z-of_z) in
    let w = c.greatest-most.ensures.within in (
      f ∙ c.greatest-most.ensures.greatest ∙ greatest-one c.args.game.now,
      record { at_least = omega (arith, ints, f, w.at_least); at_most = omega (arith, ints, f, w.at_most) },
    )

pub loop-l-preserved : goal.loop-l-preserved
loop-l-preserved c =
    let s = c.greatest.result in
    let m = c.greater-most.result in
    let q : ℤ = to_z w64 c.loop-l.most-bits in
    let e : to_z w64 (of_z w64 s) ≡ s = search (rules, to_z-of_z) in
    let f : to_z w64 (of_z w64 m) ≡ m = search (rules, to_z-of_z) in
    let is : m ≡ int_max q s = c.greater-most.ensures ∙ ap (int_max q) e in
    let high = int_max_is q s in
    let w = c.loop-l.invariant.1 in
    let v = c.greatest.ensures.within in
    let lt : c.loop-l.l + 1 ≤ length c.args.game.now.types = omega (arith, c.types-types.ensures.count) in (
      f ∙ is ∙ greatest-more c.args.game.now c.promises.ensures c.loop-l.l q s (omega arith) lt c.loop-l.invariant.0 c.greatest.ensures.greatest,
      record { at_least = omega (arith, ints, f, is, high, w.at_least, v.at_least); at_most = omega (arith, ints, f, is, high, w.at_most, v.at_most) },
    )
