use Rattle.std.proofs.Common.{◌≡◌, ◌-◌, ◌^◌, map, max, min, take}
use Rattle.std.specs.List.{fold}
use Rattle.sg_plays_fact.specs.Bounding.{schedule_gain}
use Rattle.sg_plays_fact.proofs.bounding.most_gain.Given as goal

-- the greatest of the schedules so far
abbrev pub invariant-loop-s : goal.invariant-loop-s
invariant-loop-s l = l.most ≡ min (fold max 0 (map (schedule_gain l.game l.weights l.covered) (take l.s-index l.s-items))) (2 ^ 128 - 1)
