use Rattle.std.proofs.Common.{◌≡◌, ◌+◌, ◌-◌, ◌++◌, map}
use Rattle.sg_model.specs.Sums.{numbers, numbers_from}
use Rattle.sg_bounds.specs.Regions.{alone}
use Rattle.sg_lanes.proofs.start.push_cap_nodes.Given as goal

-- the nodes so far, and those to come, are all
abbrev pub invariant-loop-a : goal.invariant-loop-a
invariant-loop-a l = l.nodes.items ++ map (alone l.l) (numbers_from (l.a + 1) (l.count - l.a)) ≡ l.initial.nodes.items ++ map (alone l.l) (numbers l.count)
