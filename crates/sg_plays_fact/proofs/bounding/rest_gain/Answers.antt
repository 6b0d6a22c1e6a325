use Rattle.std.proofs.Common.{arith}
use Rattle.sg_plays_fact.specs.Bounding.{most_gain}
use Rattle.sg_plays_fact.proofs.Ranges.{sum_from-more}
use Rattle.sg_plays_fact.proofs.bounding.rest_gain.Goals as goal

pub loop-r-preserved : goal.loop-r-preserved
loop-r-preserved c =
    let e = sum_from-more (most_gain c.args.game.now c.args.weights.now c.args.covered.now) c.args.k c.loop-r.r c.loop-r.auto.r in
    omega (arith, e, c.loop-r.invariant, c.most_gain.ensures, c.saturating_add-sum.ensures)
