use Rattle.std.proofs.Common.{◌≡◌, ◌+◌, ◌-◌, ◌++◌, [], map}
use Rattle.sg_model.specs.Sums.{numbers, numbers_from}
use Rattle.sg_lanes.proofs.Branched.{part_by}
use Rattle.sg_lanes.proofs.start.root_parts.Given as goal

-- the parts so far, and those to come, are all
abbrev pub invariant-loop-i : goal.invariant-loop-i
invariant-loop-i l = l.parts.items ++ map (part_by []) (numbers_from (l.i + 1) (l.count - l.i)) ≡ map (part_by []) (numbers l.count)
