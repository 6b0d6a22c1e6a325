use Rattle.std.proofs.Common.{◌≡◌, ◌+◌, ◌-◌, ◌++◌, map}
use Rattle.sg_model.specs.Sums.{numbers_from}
use Rattle.sg_lanes.proofs.Branched.{part_by}
use Rattle.sg_lanes.proofs.branch.later_parts.Given as goal

-- the parts so far, and those to come, are all
abbrev pub invariant-loop-a : goal.invariant-loop-a
invariant-loop-a l = l.parts.items ++ map (part_by l.acts) (numbers_from (l.a + 1) (l.count - l.a)) ≡ map (part_by l.acts) (numbers_from 2 (l.count - 1))
