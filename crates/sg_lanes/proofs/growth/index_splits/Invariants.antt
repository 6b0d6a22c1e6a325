use Rattle.std.proofs.Common.{take}
use Rattle.sg_lanes.specs.Ends.{HasSplits}
use Rattle.sg_lanes.proofs.growth.index_splits.Given as goal

-- the lists so far
abbrev pub invariant-loop-acts : goal.invariant-loop-acts
invariant-loop-acts l = HasSplits (take l.acts-index l.splits) l.lists
