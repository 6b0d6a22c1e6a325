use Rattle.std.proofs.Common.{◌≡◌, ◌+◌, ℕ, ap, arith}
use Rattle.std.proofs.lemmas.Int.{ints}
use Rattle.sg_model.specs.Games.{attacker}
use Rattle.sg_upper.proofs.Totals.{total-last}
use Rattle.sg_upper.proofs.rest.fixed_priors.Goals as goal

pub loop-i-preserved : goal.loop-i-preserved
loop-i-preserved c =
    let more = total-last (λ (k : ℕ). (attacker c.args.game.now k).prior) 1 c.loop-i.i in
    let at : c.loop-i.i + 1 ≡ 1 + c.loop-i.i = omega arith in
    let same = ap (λ (k : ℕ). (attacker c.args.game.now k).prior) at in
    record {
      sum = omega (arith, ints, more, same, c.prior-priors.ensures, c.loop-i.invariant.sum);
      low = omega (arith, ints, c.prior-priors.ensures);
      high = omega (arith, ints, c.prior-priors.ensures);
    }
