use Rattle.std.proofs.Common.{ℕ, arith}
use Rattle.std.proofs.lemmas.Int.{ints}
use Rattle.sg_model.specs.Games.{attacker}
use Rattle.sg_upper.proofs.Totals.{total-last}
use Rattle.sg_desk.proofs.measures.priors_from.Goals as goal

pub loop-i-preserved : goal.loop-i-preserved
loop-i-preserved c =
    let more = total-last (λ (k : ℕ). (attacker c.args.game.now k).prior) c.args.from c.loop-i.i in
    record {
      sum = omega (arith, ints, more, c.from-priors.ensures, c.prior.ensures.prior, c.loop-i.invariant.sum);
      low = omega (arith, ints, c.from-priors.ensures, c.prior.ensures.some, c.loop-i.invariant.low);
      high = omega (arith, ints, c.from-priors.ensures, c.prior.ensures.few, c.loop-i.invariant.high);
    }
