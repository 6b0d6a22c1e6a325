use Rattle.std.proofs.Common.{◌≡◌, ◌+◌, ◌-◌, ◌++◌, flat_map}
use Rattle.sg_model.specs.Sums.{numbers_from}
use Rattle.sg_search.proofs.Enough.{cap_nodes_of}
use Rattle.sg_lanes.proofs.start.cap_nodes.Given as goal

-- the nodes so far, and those to come, are all
abbrev pub invariant-loop-l : goal.invariant-loop-l
invariant-loop-l l = l.nodes.items ++ flat_map (cap_nodes_of l.game) (numbers_from (l.l + 1) (l.count - l.l)) ≡ flat_map (cap_nodes_of l.game) (numbers_from 2 (l.count - 1))
