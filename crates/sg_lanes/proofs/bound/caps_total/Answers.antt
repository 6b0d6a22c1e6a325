use Rattle.std.proofs.Common.{◌≡◌, ◌∙◌, ℕ, ◌+◌, ◌-◌, ap, arith, ◌+ℤ◌, ◌*ℤ◌, sym, length, get_or, rules, of_z, to_z, FitsSigned}
use Rattle.std.specs.Int.{w64, w128}
use Rattle.std.proofs.lemmas.Int.{ints, to_z-of_z}
use Rattle.sg_model.specs.Sums.{total, numbers_from}
use Rattle.sg_model.specs.Games.{attacker}
use Rattle.sg_tree.specs.declared.report.Cap.{Cap}
use Rattle.sg_bounds.specs.Caps.{cap_of}
use Rattle.sg_lanes.proofs.Totals.{cap-at, product-same, sum-end, sum-step}
use Rattle.sg_lanes.proofs.bound.caps_total.Goals as goal

pub overflow_add-sum : goal.overflow_add-sum
overflow_add-sum c =
    let x = c.share-sum.result in
    let e : to_z w128 (of_z w128 x) ≡ x = search (rules, to_z-of_z) in
    omega (arith, ints, e, c.share-sum.ensures.low, c.share-sum.ensures.high, c.types-count.ensures.few)

pub loop-i-preserved : goal.loop-i-preserved
loop-i-preserved c =
    let g = c.args.game.now in
    let caps = c.args.caps.now in
    let x = c.share-sum.result in
    let i = c.loop-i.i in
    let n = c.types-count.result in
    let f = λ (t : ℕ). (attacker g t).prior *ℤ (cap_of caps t).v in
    let S = to_z w128 c.loop-i.sum-bits in
    let e : to_z w128 (of_z w128 x) ≡ x = search (rules, to_z-of_z) in
    let a : to_z w64 (of_z w64 c.prior.result) ≡ c.prior.result = search (rules, to_z-of_z) in
    let b : to_z w64 (of_z w64 (get_or caps (i - 1) c.index-caps-i.result).v) ≡ (get_or caps (i - 1) c.index-caps-i.result).v = search (rules, to_z-of_z) in
    let low : n ≡ length g.types = c.types-count.ensures.count in
    let v = cap-at caps i c.index-caps-i.result (omega (arith, c.loop-i.auto.i)) (omega (arith, c.requires.caps, c.loop-i-test.true, low)) c.index-caps-i.is in
    let is : x ≡ f (i + 1) = c.share-sum.ensures.value ∙ product-same _ _ _ _ (a ∙ c.prior.ensures.prior) (b ∙ ap (λ (k : Cap). k.v) (sym c.index-caps-i.is) ∙ v) in
    let small : FitsSigned w128 (S +ℤ to_z w128 (of_z w128 x)) = omega (arith, ints, e, c.share-sum.ensures.low, c.share-sum.ensures.high, c.types-count.ensures.few) in
    let fit : to_z w128 (of_z w128 (S +ℤ to_z w128 (of_z w128 x))) ≡ S +ℤ to_z w128 (of_z w128 x) = search (rules, to_z-of_z) in
    let s = sum-step f S x (total f (numbers_from (c.args.n + 1) (n - c.args.n))) i n c.loop-i-test.true c.loop-i.invariant.whole is in
    record {
      whole = ap (λ z. z +ℤ total f (numbers_from (i + 1 + 1) (n - (i + 1)))) (fit ∙ ap (λ y. S +ℤ y) e) ∙ s;
      low = omega (arith, ints, fit, e, c.share-sum.ensures.low);
      high = omega (arith, ints, fit, e, c.share-sum.ensures.high);
    }

pub returns : goal.returns
returns c =
    let f = λ (t : ℕ). (attacker c.args.game.now t).prior *ℤ (cap_of c.args.caps.now t).v in
    let n = c.types-count.result in
    record {
      value = sum-end f (to_z w128 c.loop-i.sum-bits) (total f (numbers_from (c.args.n + 1) (n - c.args.n))) c.loop-i.i n c.loop-i-test.false c.loop-i.invariant.whole
          ∙ ap (λ (k : ℕ). total f (numbers_from (c.args.n + 1) (k - c.args.n))) c.types-count.ensures.count;
      low = omega (arith, ints, c.types-count.ensures.few, c.types-count.ensures.count, c.requires.in_range);
      high = omega (arith, ints, c.types-count.ensures.few, c.types-count.ensures.count, c.requires.in_range);
    }
