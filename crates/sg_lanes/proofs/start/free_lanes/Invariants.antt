use Rattle.std.proofs.Common.{◌≡◌, replicate, None}
use Rattle.sg_lanes.proofs.start.free_lanes.Given as goal

abbrev pub invariant-loop-i : goal.invariant-loop-i
invariant-loop-i l = l.lanes.items ≡ replicate l.i None
