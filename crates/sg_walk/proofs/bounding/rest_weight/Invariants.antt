use Rattle.std.proofs.Common.{◌≡◌, ℕ, ℤ, Bool, List, ◌+◌, ◌-◌}
use Rattle.std.specs.List.{sum_by}
use Rattle.sg_model.specs.Sums.{numbers_from}
use Rattle.sg_walk.specs.BestSchedules.{AreBestSchedules, saturated}
use Rattle.sg_walk.specs.Weights.{resource_weight}
use Rattle.sg_walk.proofs.bounding.rest_weight.Given as goal

-- the sum over the resources so far
abbrev pub invariant-loop-i : goal.invariant-loop-i
invariant-loop-i l =
    (ws : List ℤ) (covered : ℕ → Bool) → AreBestSchedules l.game ws covered l.k l.best → l.sum ≡ saturated (sum_by (resource_weight l.game ws covered) (numbers_from (l.k + 1) (l.i - l.k)))
