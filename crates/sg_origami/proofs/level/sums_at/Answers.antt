use Rattle.std.proofs.Common.{arith, length, ◌≡◌, ◌<◌, ◌≤◌, pos, cond, subst}
use Rattle.std.proofs.lemmas.Int.{ints}
use Rattle.sg_origami.specs.Rates.{RateView, is_above, multiple_of, weighted_of}
use Rattle.sg_origami.proofs.Rest.{left_more}
use Rattle.sg_origami.proofs.level.sums_at.Goals as goal

pub loop-rate-preserved : goal.loop-rate-preserved
loop-rate-preserved c =
    let lt : c.loop-rate.rate-index < length c.args.rates.now = omega (arith, c.loop-rate-test.true) in
    let none : RateView = c.rate-item.result in
    let p = is_above c.args.level.now.num c.args.level.now.den in
    let w = c.part_at-part.ensures in
    let a = subst (λ (x : RateView). c.part_at-part.result.multiples ≡ cond (p x) (multiple_of x) (pos 0)) c.rate-item.is w.multiples in
    let b = subst (λ (x : RateView). c.part_at-part.result.weighted ≡ cond (p x) (weighted_of x) (pos 0)) c.rate-item.is w.weighted in
    let e = left_more multiple_of p c.args.rates.now c.loop-rate.rate-index none lt in
    let f = left_more weighted_of p c.args.rates.now c.loop-rate.rate-index none lt in
    let few : length c.args.rates.now ≤ 10000 = c.requires in
    let i = c.loop-rate.invariant in
    record {
      slopes = omega (arith, ints, i.slopes, a, e, w.multiples_low, w.multiples_high, i.low, i.high);
      heights = omega (arith, ints, i.heights, b, f, w.weighted_low, w.weighted_high, i.below, i.above);
      low = omega (arith, ints, w.multiples_low, w.multiples_high, i.low, i.high);
      high = omega (arith, ints, w.multiples_low, w.multiples_high, i.low, i.high);
      below = omega (arith, ints, w.weighted_low, w.weighted_high, i.below, i.above);
      above = omega (arith, ints, w.weighted_low, w.weighted_high, i.below, i.above);
    }
