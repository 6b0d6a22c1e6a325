-- The numbers that all bounds of a game's facts are formed with.
use Rattle.std.specs.Prelude.{◌≡◌, ℕ, ◌+◌, ◌≤◌, List, length, pos, ◌≤ℤ◌, slice_index_or}
use Rattle.sg_model.specs.Games.{Game, prior_total}
use Rattle.sg_tree.specs.declared.report.Cap.{Cap}
use Rattle.sg_bounds.specs.Leaves.{rest_of}
use Rattle.sg_upper.specs.declared.rest.Rests.{Rests}

-- one cap for each type from the second on
abbrev pub HasCaps : Game → List Cap → Type 0
HasCaps g caps = length caps + 1 ≡ length g.types

-- what is added to mu, by how many of the first types are fixed, and the sum of the priors
pub record AreRests (g : Game) (caps : List Cap) (r : Rests) : Type 0 where
  pub by_fixed : (n : ℕ) → n ≤ length g.types → slice_index_or r.by_fixed n (pos 0) ≡ rest_of g caps n
  pub priors : r.priors ≡ prior_total g
  pub some : pos 1 ≤ℤ r.priors
  pub few : length g.types ≤ 8
