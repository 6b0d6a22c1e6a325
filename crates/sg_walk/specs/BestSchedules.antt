-- The most that each later resource can add, kept with a schedule that adds it.
use Rattle.std.specs.Prelude.{◌≡◌, ◌⊎◌, ℕ, ◌+◌, ◌-◌, ◌≤◌, ◌<◌, ◌^◌, Bool, true, List, map, max, min, ℤ, Contains, slice_index_or}
use Rattle.std.specs.List.{fold}
use Rattle.sg_model.specs.Games.{Game, resource_count, resource_schedules}
use Rattle.sg_game.specs.Counts.{IsScheduleOf}
use Rattle.sg_walk.specs.declared.bounding.BestSchedule.{BestSchedule}
use Rattle.sg_walk.specs.Weights.{schedule_weight}

-- a number saturated at the end of 128 bits
abbrev pub saturated : ℕ → ℕ
saturated n = min n (2 ^ 128 - 1)

-- what no schedule adds
abbrev pub no_schedule : BestSchedule
no_schedule = record { schedule = 0; weight = 0 }

-- the greatest weight of some schedules, and one of them that has it, unless it is 0
pub record IsBestSchedule (g : Game) (ws : List ℤ) (covered : ℕ → Bool) (schedules : List ℕ) (best : BestSchedule) : Type 0 where
  pub weight : best.weight ≡ saturated (fold max 0 (map (schedule_weight g ws covered) schedules))
  pub reached : (best.weight ≡ 0) ⊎ (Contains schedules best.schedule × IsScheduleOf g best.schedule × (best.weight ≡ saturated (schedule_weight g ws covered best.schedule)))

-- the best of the resources after the first k
pub record AreBestSchedules (g : Game) (ws : List ℤ) (covered : ℕ → Bool) (k : ℕ) (best : List BestSchedule) : Type 0 where
  pub each : (i : ℕ) → k ≤ i → i < resource_count g → IsBestSchedule g ws covered (resource_schedules g (i + 1)) (slice_index_or best i no_schedule)

-- what is covered stays covered
pub record StaysCovered (before after : ℕ → Bool) : Type 0 where
  pub each : (t : ℕ) → before t ≡ true → after t ≡ true
