use Rattle.std.proofs.Common.{◌≡◌, ◌∙◌, ℕ, ◌+◌, ◌-◌, ap, arith, ◌+ℤ◌, rules, of_z, to_z, FitsSigned}
use Rattle.std.specs.Int.{w64}
use Rattle.std.proofs.lemmas.Int.{ints, to_z-of_z}
use Rattle.sg_model.specs.Sums.{total, numbers, numbers_from}
use Rattle.sg_model.specs.Games.{attacker}
use Rattle.sg_lanes.proofs.Totals.{sum-end, sum-start, sum-step}
use Rattle.sg_lanes.proofs.bound.priors_total.Goals as goal

pub overflow_add-sum : goal.overflow_add-sum
overflow_add-sum c =
    let x = c.prior-sum.result in
    let e : to_z w64 (of_z w64 x) ≡ x = search (rules, to_z-of_z) in
    omega (arith, ints, e, c.prior-sum.ensures.some, c.prior-sum.ensures.few, c.types-count.ensures.few, c.types-count.ensures.count)

pub loop-i-init : goal.loop-i-init
loop-i-init c = record { whole = sum-start (λ (t : ℕ). (attacker c.args.game.now t).prior) c.args.n; low = omega (arith, ints); high = omega (arith, ints) }

pub loop-i-preserved : goal.loop-i-preserved
loop-i-preserved c =
    let g = c.args.game.now in
    let x = c.prior-sum.result in
    let i = c.loop-i.i in
    let n = c.args.n in
    let f = λ (t : ℕ). (attacker g t).prior in
    let S = to_z w64 c.loop-i.sum-bits in
    let e : to_z w64 (of_z w64 x) ≡ x = search (rules, to_z-of_z) in
    let small : FitsSigned w64 (S +ℤ to_z w64 (of_z w64 x)) = omega (arith, ints, e, c.prior-sum.ensures.some, c.prior-sum.ensures.few, c.types-count.ensures.few, c.types-count.ensures.count) in
    let fit : to_z w64 (of_z w64 (S +ℤ to_z w64 (of_z w64 x))) ≡ S +ℤ to_z w64 (of_z w64 x) = search (rules, to_z-of_z) in
    let s = sum-step f S x (total f (numbers n)) i n c.loop-i-test.true c.loop-i.invariant.whole c.prior-sum.ensures.prior in
    record {
      whole = ap (λ z. z +ℤ total f (numbers_from (i + 1 + 1) (n - (i + 1)))) (fit ∙ ap (λ y. S +ℤ y) e) ∙ s;
      low = omega (arith, ints, fit, e, c.prior-sum.ensures.some);
      high = omega (arith, ints, fit, e, c.prior-sum.ensures.few);
    }

pub returns : goal.returns
returns c =
    let f = λ (t : ℕ). (attacker c.args.game.now t).prior in
    record {
      total = sum-end f (to_z w64 c.loop-i.sum-bits) (total f (numbers c.args.n)) c.loop-i.i c.args.n c.loop-i-test.false c.loop-i.invariant.whole;
      low = omega (arith, ints);
      high = omega (arith, ints, c.types-count.ensures.few, c.types-count.ensures.count);
    }
