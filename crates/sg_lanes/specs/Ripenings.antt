-- A prefix put among those that may be split.
use Rattle.std.specs.Prelude.{◌≡◌, ℕ, ◌<◌, ◌≤◌, ◌⊎◌, true, false, List, [], ◌∷◌, filter, length, insert, slice_index_or, AllPairs, Contains, Option, Some, None}
use Rattle.sg_frac.specs.Fractions.{Fraction}
use Rattle.sg_tree.specs.declared.fact.Fact.{Fact}
use Rattle.sg_tree.specs.declared.fix.Fix.{Fix}
use Rattle.sg_model.specs.Games.{Game}
use Rattle.sg_bounds.specs.Regions.{prefix}
use Rattle.sg_bounds.specs.Leaves.{fact_bound}
use Rattle.sg_search.specs.Searches.{Task, Search}
use Rattle.sg_search.specs.Bounding.{caps_of, exceeds, own_bound}
use Rattle.sg_lanes.specs.Bounds.{StandsFor}
use Rattle.sg_lanes.specs.Choices.{is_over_by, ripe_nodes}
use Rattle.sg_search.specs.Events.{comes_first}
use Rattle.sg_lanes.specs.declared.ripe.Ripe.{Ripe}

-- it stands behind those that come before it, and before the first that doesn't
pub record IsPutAt (xs : List Ripe) (e : Ripe) (ys : List Ripe) : Type 0 where
  pub place : ℕ
  pub within : place ≤ length xs
  pub before : (k : ℕ) (d : Ripe) → k < place → comes_first (slice_index_or xs k d).node e.node ≡ true
  pub after : (d : Ripe) → place < length xs → comes_first (slice_index_or xs place d).node e.node ≡ false
  pub put : ys ≡ insert xs place e

-- what becomes of these: nothing, where no prefix is to be put among them
abbrev pub IsPutIn : List Ripe → Option Ripe → List Ripe → Type 0
IsPutIn xs None ys = ys ≡ xs
IsPutIn xs (Some e) ys = IsPutAt xs e ys

-- a prefix that was worked is to be put among them where a type is left open and its bound is above the incumbent's value
abbrev pub IsEntry : Task → Search → Fix → Fact → Fraction → Option Ripe → Type 0
IsEntry p s node fact value None =
    length node.acts < length p.game.types → (b : Option Fraction) × StandsFor b (fact_bound p.game (caps_of p.game s) (length node.acts) fact) × (is_over_by b value ≡ false)
IsEntry p s node fact value (Some e) =
    (length node.acts < length p.game.types) × (e.node ≡ node) × StandsFor (Some e.bound) (fact_bound p.game (caps_of p.game s) (length node.acts) fact) × (exceeds e.bound value ≡ true)

-- ---- the prefixes of one type

-- the prefix of one action with its bound, where that is there and above a value
abbrev pub IsTopEntry : Game → Search → Fraction → ℕ → Option Ripe → Type 0
IsTopEntry g s value a None = (b : Option Fraction) × StandsFor b (own_bound g s (a ∷ [])) × (is_over_by b value ≡ false)
IsTopEntry g s value a (Some e) = (e.node ≡ prefix (a ∷ [])) × StandsFor (Some e.bound) (own_bound g s (a ∷ [])) × (exceeds e.bound value ≡ true)

-- those of the first n actions, in order
pub record AreTopEntries (g : Game) (s : Search) (value : Fraction) (n : ℕ) (rs : List Ripe) : Type 0 where
  pub in_order : AllPairs (λ a b. comes_first a b ≡ true) (ripe_nodes rs)
  pub each : (r : Ripe) → Contains rs r → (a : ℕ) × (1 ≤ a) × (a ≤ n) × IsTopEntry g s value a (Some r)
  pub all : (a : ℕ) → 1 ≤ a → a ≤ n → IsTopEntry g s value a None ⊎ ((r : Ripe) × Contains rs r × IsTopEntry g s value a (Some r))
