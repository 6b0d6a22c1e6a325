use Rattle.std.proofs.Common.{◌≡◌, ◌+◌, ◌-◌, ◌^◌, min}
use Rattle.std.specs.List.{sum_by}
use Rattle.sg_model.specs.Sums.{numbers_from}
use Rattle.sg_plays_fact.specs.Bounding.{most_gain}
use Rattle.sg_plays_fact.proofs.bounding.rest_gain.Given as goal

-- the sum over the resources so far
abbrev pub invariant-loop-r : goal.invariant-loop-r
invariant-loop-r l = l.sum ≡ min (sum_by (most_gain l.game l.weights l.covered) (numbers_from (l.k + 1) (l.r - l.k))) (2 ^ 128 - 1)
