use Rattle.std.proofs.Common.{◌≡◌, ◌∙◌, ℕ, ◌+◌, ◌-◌, ap, arith, ◌+ℤ◌, ◌*ℤ◌, rules, of_z, to_z, FitsSigned}
use Rattle.std.specs.Int.{w64, w128}
use Rattle.std.proofs.lemmas.Int.{ints, to_z-of_z}
use Rattle.sg_model.specs.Sums.{total, numbers, numbers_from}
use Rattle.sg_model.specs.Games.{attacker}
use Rattle.sg_model.specs.Payoffs.{greatest_of}
use Rattle.sg_bounds.specs.Leaves.{root_bound}
use Rattle.sg_lanes.proofs.Totals.{product-same, sum-end, sum-start, sum-step}
use Rattle.sg_lanes.proofs.bound.greatest_total.Goals as goal

pub overflow_add-sum : goal.overflow_add-sum
overflow_add-sum c =
    let x = c.share-sum.result in
    let e : to_z w128 (of_z w128 x) ≡ x = search (rules, to_z-of_z) in
    omega (arith, ints, e, c.share-sum.ensures.low, c.share-sum.ensures.high, c.types-count.ensures.few)

pub loop-i-init : goal.loop-i-init
loop-i-init c = record { whole = sum-start (λ (t : ℕ). (attacker c.args.game.now t).prior *ℤ greatest_of c.args.game.now t) c.types-count.result; low = omega (arith, ints); high = omega (arith, ints) }

pub loop-i-preserved : goal.loop-i-preserved
loop-i-preserved c =
    let g = c.args.game.now in
    let x = c.share-sum.result in
    let i = c.loop-i.i in
    let n = c.types-count.result in
    let f = λ (t : ℕ). (attacker g t).prior *ℤ greatest_of g t in
    let e : to_z w128 (of_z w128 x) ≡ x = search (rules, to_z-of_z) in
    let a : to_z w64 (of_z w64 c.prior.result) ≡ c.prior.result = search (rules, to_z-of_z) in
    let b : to_z w64 (of_z w64 c.greatest.result) ≡ c.greatest.result = search (rules, to_z-of_z) in
    let is : x ≡ f (i + 1) = c.share-sum.ensures.value ∙ product-same _ _ _ _ (a ∙ c.prior.ensures.prior) (b ∙ c.greatest.ensures.greatest) in
    let s = sum-step f (to_z w128 c.loop-i.sum-bits) x (total f (numbers n)) i n c.loop-i-test.true c.loop-i.invariant.whole is in
    let S = to_z w128 c.loop-i.sum-bits in
    let small : FitsSigned w128 (S +ℤ to_z w128 (of_z w128 x)) = omega (arith, ints, e, c.share-sum.ensures.low, c.share-sum.ensures.high, c.types-count.ensures.few) in
    let fit : to_z w128 (of_z w128 (S +ℤ to_z w128 (of_z w128 x))) ≡ S +ℤ to_z w128 (of_z w128 x) = search (rules, to_z-of_z) in
    record { whole = ap (λ z. z +ℤ total f (numbers_from (i + 1 + 1) (n - (i + 1)))) (fit ∙ ap (λ y. S +ℤ y) e) ∙ s; low = omega (arith, ints, e, c.share-sum.ensures.low); high = omega (arith, ints, e, c.share-sum.ensures.high) }

pub returns : goal.returns
returns c =
    let g = c.args.game.now in
    let f = λ (t : ℕ). (attacker g t).prior *ℤ greatest_of g t in
    let s = sum-end f (to_z w128 c.loop-i.sum-bits) (total f (numbers c.types-count.result)) c.loop-i.i c.types-count.result c.loop-i-test.false c.loop-i.invariant.whole in
    let n : total f (numbers c.types-count.result) ≡ (root_bound g).num = ap (λ (n : ℕ). total f (numbers n)) c.types-count.ensures.count in
    s ∙ n
