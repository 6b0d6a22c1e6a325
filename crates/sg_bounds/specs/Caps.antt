-- Caps: the most that any commitment takes of a type.
use Rattle.std.specs.Prelude.{◌≡◌, ℕ, ◌+◌, ◌-◌, ◌≤◌, ◌⊎◌, List, [], ◌∷◌, length, ℤ, pos, ◌+ℤ◌, ◌*ℤ◌, ◌≤ℤ◌}
use Rattle.sg_model.specs.Sums.{nth}
use Rattle.sg_model.specs.Games.{Game, attacker, action_count}
use Rattle.sg_model.specs.Payoffs.{greatest_of, shift_of}
use Rattle.sg_tree.specs.declared.fact.Fact.{Fact}
use Rattle.sg_tree.specs.declared.report.Cap.{Cap}
use Rattle.sg_bounds.specs.Regions.{alone}
use Rattle.sg_bounds.specs.Facts.{HoldsFor, mu_of, no_fact, rho_of}

-- the fact's region is empty, or its bound, mu / (rho * prior) less the shift, is at most v
abbrev pub IsUnderCap : Game → ℕ → ℤ → Fact → Type 0
IsUnderCap g l v f = (mu_of f ≡ pos 0) ⊎ (mu_of f ≤ℤ (rho_of f *ℤ ((attacker g l).prior *ℤ (v +ℤ shift_of g))))

-- without facts the greatest payoff against type l; else one fact for each action that holds where the type takes it, and is within v
abbrev pub IsAllowedBy : Game → ℕ → ℤ → List Fact → Type 0
IsAllowedBy g l v [] = v ≡ greatest_of g l
IsAllowedBy g l v (f ∷ fs) = (length (f ∷ fs) ≡ action_count g l)
    × ((a : ℕ) → 1 ≤ a → a ≤ action_count g l → HoldsFor g (alone l a) (nth (f ∷ fs) a no_fact) × IsUnderCap g l v (nth (f ∷ fs) a no_fact))

-- what stands where there is no cap of that number
abbrev pub no_cap : Cap
no_cap = record { l = 0; v = pos 0; proof = [] }

-- the cap of type l, where the caps are those of types 2 and up
abbrev pub cap_of : List Cap → ℕ → Cap
cap_of caps l = nth caps (l - 1) no_cap

-- an allowed cap for each type from 2, in order
pub record AreCaps (g : Game) (caps : List Cap) : Type 0 where
  pub one_each : length caps + 1 ≡ length g.types
  pub in_order : (l : ℕ) → 2 ≤ l → l ≤ length g.types → (cap_of caps l).l ≡ l
  pub allowed : (l : ℕ) → 2 ≤ l → l ≤ length g.types → IsAllowedBy g l (cap_of caps l).v (cap_of caps l).proof
