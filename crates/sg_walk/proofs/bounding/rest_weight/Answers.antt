use Rattle.std.proofs.Common.{arith}
use Rattle.sg_walk.specs.Weights.{resource_weight}
use Rattle.sg_walk.proofs.Ranges.{sum_from-more}
use Rattle.sg_walk.proofs.bounding.rest_weight.Goals as goal

pub loop-i-preserved : goal.loop-i-preserved
loop-i-preserved c ws covered all =
    let e = sum_from-more (resource_weight c.args.game.now ws covered) c.args.k c.loop-i.i c.loop-i.auto.i in
    let here = all.each c.loop-i.i c.loop-i.auto.i (omega (arith, c.loop-i-test.true, c.resources-i-end.ensures.count)) in
    omega (arith, e, c.loop-i.invariant ws covered all, here.weight, c.saturating_add-sum.ensures)
