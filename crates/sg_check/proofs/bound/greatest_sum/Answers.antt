use Rattle.std.proofs.Common.{◌≡◌, ℕ, suc, ◌+◌, ◌-◌, ◌<◌, ◌≤◌, arith, length, ◌*ℤ◌}
use Rattle.std.proofs.lemmas.Int.{ints}
use Rattle.sg_model.specs.Games.{attacker}
use Rattle.sg_model.specs.Payoffs.{greatest_of}
use Rattle.sg_check.proofs.Bounded.{sum-next}
use Rattle.sg_check.proofs.bound.greatest_sum.Goals as goal

pub loop-l-preserved : goal.loop-l-preserved
loop-l-preserved c =
    let g = c.args.game.now in
    let k = c.types-l-end.ensures in
    let i = c.loop-l.invariant in
    let x = c.weighed_greatest-sum.ensures in
    let lt : c.loop-l.l < length g.types = omega (arith, c.loop-l-test.true, k.count) in
    let few : c.loop-l.l ≤ 8 = omega (arith, c.loop-l-test.true, k.few) in
    let e : length g.types - c.loop-l.l ≡ suc (length g.types - (c.loop-l.l + 1)) = omega (arith, lt) in
    record {
      whole = sum-next (λ (a : ℕ). (attacker g a).prior *ℤ greatest_of g a) (c.loop-l.l + 1) (length g.types - c.loop-l.l) (length g.types - (c.loop-l.l + 1)) _ c.weighed_greatest-sum.result _ _ e i.whole x.value (omega (arith, ints, few, i.low, i.high, x.low, x.high));
      low = omega (arith, ints, few, i.low, i.high, x.low, x.high);
      high = omega (arith, ints, few, i.low, i.high, x.low, x.high);
    }
