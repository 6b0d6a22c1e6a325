-- How a game lies in memory.
use Rattle.std.specs.Prelude.{◌≡◌, ℕ, List, length}
use Rattle.sg_model.specs.Sums.{numbers}
use Rattle.sg_model.specs.Games.{Game}
use Rattle.sg_model.specs.Limits.{IsGame}
use Rattle.sg_game.specs.Counts.{patrol_names}

-- a game that keeps its promises, with the numbers of its goals and the names of its patrols, made once
pub record IsStored (g : Game) (all : List ℕ) (patrols : List (List ℕ)) : Type 0 where
  pub game : IsGame g
  pub all_goals : all ≡ numbers (length g.goals)
  pub named : patrols ≡ patrol_names g.patrols
