use Rattle.std.proofs.Common.{◌≡◌, ◌-◌, ◌^◌, min, take}
use Rattle.std.specs.List.{sum_by}
use Rattle.sg_plays_fact.specs.Bounding.{open_weight}
use Rattle.sg_plays_fact.proofs.bounding.schedule_gain.Given as goal

-- the sum over the targets so far
abbrev pub invariant-loop-t : goal.invariant-loop-t
invariant-loop-t l = l.sum ≡ min (sum_by (open_weight l.weights l.covered) (take l.t-index l.t-items)) (2 ^ 128 - 1)
