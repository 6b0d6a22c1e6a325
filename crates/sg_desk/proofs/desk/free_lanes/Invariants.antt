use Rattle.std.proofs.Common.{◌≡◌, None, replicate}
use Rattle.sg_desk.proofs.desk.free_lanes.Given as goal

-- the lanes so far
abbrev pub invariant-loop : goal.invariant-loop
invariant-loop l = l.runs.items ≡ replicate l.counter None
