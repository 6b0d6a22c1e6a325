-- What plays cover, for all plays of a game at once.
use Rattle.std.specs.Prelude.{◌≡◌, ℕ, ◌≤◌, Bool, false, List, [], map, length, nat_eq}
use Rattle.std.specs.List.{list_any}
use Rattle.sg_model.specs.Games.{Game, is_matrix, resource_schedules, schedule_targets}
use Rattle.sg_model.specs.PlayLists.{legal_plays}
use Rattle.sg_model.specs.Plays.{covers}
use Rattle.sg_model.specs.Sums.{nth}

-- whether choice c of resource r holds target t
abbrev pub holds_target : Game → ℕ → ℕ → ℕ → Bool
holds_target g r t c = list_any (λ x. nat_eq x t) (schedule_targets g (nth (resource_schedules g r) c 0))

-- in security form, for each target in order, which of the legal plays cover it
pub record AreCovered (g : Game) (all : List (List Bool)) : Type 0 where
  pub each : is_matrix g ≡ false → (t : ℕ) → 1 ≤ t → t ≤ length g.goals → nth all t [] ≡ map (λ play. covers g play t) (legal_plays g)
  pub long : is_matrix g ≡ false → length all ≡ length g.goals
