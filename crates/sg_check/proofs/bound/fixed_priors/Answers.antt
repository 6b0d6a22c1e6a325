use Rattle.std.proofs.Common.{◌≡◌, ℕ, suc, ◌+◌, ◌-◌, ◌≤◌, arith}
use Rattle.std.proofs.lemmas.Int.{ints}
use Rattle.sg_model.specs.Games.{attacker}
use Rattle.sg_check.proofs.Bounded.{sum-next}
use Rattle.sg_check.proofs.bound.fixed_priors.Goals as goal

pub loop-l-preserved : goal.loop-l-preserved
loop-l-preserved c =
    let g = c.args.game.now in
    let i = c.loop-l.invariant in
    let e : c.args.fixed - c.loop-l.l ≡ suc (c.args.fixed - (c.loop-l.l + 1)) = omega (arith, c.loop-l-test.true) in
    let few : c.loop-l.l ≤ 8 = omega (arith, c.loop-l-test.true, c.requires, c.types-types.ensures.count, c.types-types.ensures.few) in
    record {
      whole = sum-next (λ (a : ℕ). (attacker g a).prior) (c.loop-l.l + 1) (c.args.fixed - c.loop-l.l) (c.args.fixed - (c.loop-l.l + 1)) _ c.from-sum.result _ _ e i.whole (omega (arith, ints, c.from-sum.ensures, c.prior.ensures.prior)) (omega (arith, ints, few, i.low, i.high, c.from-sum.ensures, c.prior.ensures.some, c.prior.ensures.few));
      low = omega (arith, ints, few, i.low, i.high, c.from-sum.ensures, c.prior.ensures.some, c.prior.ensures.few);
      high = omega (arith, ints, few, i.low, i.high, c.from-sum.ensures, c.prior.ensures.some, c.prior.ensures.few);
    }
