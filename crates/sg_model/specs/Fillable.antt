-- Games that declare a scale, within the limits of a game file: those whose water level is found by filling.
use Rattle.std.specs.Prelude.{◌≡◌, ℕ, ◌≤◌, ◌^◌, false, length, ℤ, pos}
use Rattle.sg_model.specs.declared.limit.TheConstants.{SCALED_PATROL_LIMIT, SCALED_TARGET_LIMIT, SCALE_LIMIT}
use Rattle.sg_model.specs.Games.{Game, is_matrix, payoff, resource_count}
use Rattle.sg_model.specs.Limits.{IsPayoff, IsWithin}
use Rattle.sg_model.specs.Origami.{IsOrigami}

-- a game that declares a scale, within its limits
pub record IsFillable (g : Game) : Type 0 where
  pub origami : IsOrigami g
  pub security : is_matrix g ≡ false
  pub one_type : length g.types ≡ 1
  pub few_patrols : resource_count g ≤ SCALED_PATROL_LIMIT
  pub scale_range : IsWithin (pos 1) SCALE_LIMIT g.scale
  pub some : 1 ≤ length g.goals
  pub few : length g.goals ≤ SCALED_TARGET_LIMIT
  pub small : (t : ℕ) → IsPayoff (payoff g 1 t)
