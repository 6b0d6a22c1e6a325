-- A game before it is tested as a whole.
use Rattle.std.specs.Prelude.{ℕ, ◌≤◌, length, All, Option, Some, None, option_map}
use Rattle.sg_model.specs.declared.limit.TheConstants.{ACTION_LIMIT, RESOURCE_LIMIT, SCALED_PATROL_LIMIT, SCALED_TARGET_LIMIT, TYPE_LIMIT}
use Rattle.sg_model.specs.Games.{Game, Attacker}
use Rattle.sg_model.specs.Limits.{IsPayoff}
use Rattle.sg_game.specs.declared.parts.Parts.{Parts}
use Rattle.sg_game.specs.declared.parts.ListParts.{ListParts}
use Rattle.sg_game.specs.declared.draft.Draft.{Draft}
use Rattle.sg_game.specs.Converting.{FitAll}
use Rattle.sg_model.specs.Sums.{positive_part}

-- the game of a draft
abbrev pub drawn : Draft → Game
drawn d = record { kind = d.kind; scale = d.scale; patrols = d.patrols; goals = d.goals; schedules = d.schedules; resources = d.resources; types = d.types }

-- there is no number, or it is within the greatest limit
abbrev pub IsFewPatrols : Option ℕ → Type 0
IsFewPatrols None = Unit {0}
IsFewPatrols (Some n) = n ≤ SCALED_PATROL_LIMIT

-- parts that a draft can hold
pub record FitsDraft (p : Parts) : Type 0 where
  pub patrols : IsFewPatrols (option_map positive_part p.patrols)
  pub schedules : All (λ (x : ListParts). FitAll x.members.items) p.schedules.items
  pub resources : All (λ (x : ListParts). FitAll x.members.items) p.resources.items

-- so few of each that the rows of a linear program can be counted
pub record IsCountable (g : Game) : Type 0 where
  pub goals : length g.goals ≤ SCALED_TARGET_LIMIT
  pub resources : length g.resources ≤ RESOURCE_LIMIT
  pub patrols : IsFewPatrols g.patrols
  pub types : length g.types ≤ TYPE_LIMIT
  pub actions : All (λ (x : Attacker). length x.actions ≤ ACTION_LIMIT) g.types
  pub payoffs : All (λ (x : Attacker). All IsPayoff x.payoffs) g.types
