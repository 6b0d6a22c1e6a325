-- Plays, and schedules of one target.
use Rattle.std.specs.Prelude.{◌≡◌, ℕ, false, if◌then◌else◌, List, [], ◌∷◌, length, replicate}
use Rattle.sg_model.specs.Games.{Game, is_matrix, resource_count, schedule_targets}
use Rattle.sg_game.specs.Counts.{IsScheduleOf}

-- the play in which all resources are idle, or in matrix form row 1
abbrev pub least_code : Game → List ℕ
least_code g = if is_matrix g then (1 ∷ []) else replicate (resource_count g) 0

-- in security form, each schedule has one target
pub record IsSingle (g : Game) : Type 0 where
  pub security : is_matrix g ≡ false
  pub one_each : (s : ℕ) → IsScheduleOf g s → length (schedule_targets g s) ≡ 1
