use Rattle.std.proofs.Common.{◌≡◌, ℕ, Bool, length, ◌+◌, ◌≤◌, ◌<◌, slice_index_or}
use Rattle.sg_model.specs.Games.{resource_schedules}
use Rattle.sg_model.specs.Plays.{covers}
use Rattle.sg_walk.specs.BestSchedules.{AreBestSchedules, IsBestSchedule, StaysCovered, no_schedule}
use Rattle.sg_walk.proofs.bounding.renew_best.Given as goal

-- the best so far
abbrev pub invariant-loop-i : goal.invariant-loop-i
invariant-loop-i l =
    (length l.next ≡ 32)
    × ((covered : ℕ → Bool) → StaysCovered covered (covers l.weighted.game.now l.trail.play) → AreBestSchedules l.weighted.game.now l.weighted.weights.now covered l.k l.best
    → (j : ℕ) → l.k ≤ j → j < l.i
    → IsBestSchedule l.weighted.game.now l.weighted.weights.now (covers l.weighted.game.now l.trail.play) (resource_schedules l.weighted.game.now (j + 1)) (slice_index_or l.next j no_schedule))
