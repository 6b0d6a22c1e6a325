use Rattle.std.proofs.Common.{arith}
use Rattle.std.proofs.lemmas.Int.{ints}
use Rattle.sg_game.proofs.Plays.{total-more}
use Rattle.sg_game.proofs.play.prior_total.Goals as goal

pub loop-l-preserved : goal.loop-l-preserved
loop-l-preserved c =
    let more = total-more c.args.game.now.types c.loop-l.l (omega arith) in
    record {
      sum = omega (arith, ints, more, c.prior-total.ensures.prior, c.loop-l.invariant.sum);
      low = omega (arith, ints);
      high = omega (arith, ints);
    }
