use Rattle.std.proofs.Common.{◌-◌, drop}
use Rattle.sg_lanes.specs.Ends.{HasFacts}
use Rattle.sg_lanes.proofs.growth.index_facts.Given as goal

-- the facts of the last ones so far
abbrev pub invariant-loop-i : goal.invariant-loop-i
invariant-loop-i l = HasFacts (drop (l.count - l.i) l.worked) l.facts
