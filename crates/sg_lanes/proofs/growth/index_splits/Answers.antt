use Rattle.std.proofs.Common.{arith, refl}
use Rattle.sg_lanes.proofs.Indexed.{splits-none, splits-step}
use Rattle.sg_lanes.proofs.growth.index_splits.Goals as goal

pub loop-acts-preserved : goal.loop-acts-preserved
loop-acts-preserved c = splits-step c.args.splits.now c.loop-acts.acts-index c.acts-item.result c.loop-acts.lists c.insert.new.self c.as_slice.result c.loop-acts-test.true c.acts-item.is c.as_slice.ensures c.in_ok-insert.ensures.updates c.loop-acts.invariant
