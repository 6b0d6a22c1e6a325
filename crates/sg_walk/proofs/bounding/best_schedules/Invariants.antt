use Rattle.std.proofs.Common.{◌≡◌, ℕ, length, ◌+◌, ◌<◌, slice_index_or}
use Rattle.sg_model.specs.Games.{resource_schedules}
use Rattle.sg_model.specs.Plays.{covers}
use Rattle.sg_walk.specs.BestSchedules.{IsBestSchedule, no_schedule}
use Rattle.sg_walk.proofs.bounding.best_schedules.Given as goal

-- the best so far
abbrev pub invariant-loop-i : goal.invariant-loop-i
invariant-loop-i l =
    (length l.best ≡ 32)
    × ((j : ℕ) → j < l.i → IsBestSchedule l.weighted.game.now l.weighted.weights.now (covers l.weighted.game.now l.trail.play) (resource_schedules l.weighted.game.now (j + 1)) (slice_index_or l.best j no_schedule))
