-- The defender's payoffs over a game: the greatest against a type, and the shift that makes each at least 1.
use Rattle.std.specs.Prelude.{ℕ, ◌≤◌, if◌then◌else◌, List, [], ◌∷◌, map, length, ℤ, pos, ◌-ℤ◌, ◌≤ℤ◌, flat_map}
use Rattle.sg_model.specs.Sums.{greatest, least, numbers, nth}
use Rattle.sg_model.specs.Games.{Game, attacker, action_count, payoff, is_matrix}

-- what the defender may get where type l takes action a
abbrev pub payoffs_at : Game → ℕ → ℕ → List ℤ
payoffs_at g l a =
    if is_matrix g then map (λ r. nth (nth (attacker g l).leader r []) a (pos 0)) (numbers (length g.goals))
    else ((payoff g l a).dc ∷ (payoff g l a).du ∷ [])

-- what the defender may get against type l
abbrev pub payoffs_of : Game → ℕ → List ℤ
payoffs_of g l = flat_map (payoffs_at g l) (numbers (action_count g l))

-- the defender's greatest payoff against type l
abbrev pub greatest_of : Game → ℕ → ℤ
greatest_of g l = greatest (payoffs_of g l)

-- 1 less the defender's least payoff in the game: a payoff plus the shift is at least 1
abbrev pub shift_of : Game → ℤ
shift_of g = pos 1 -ℤ least (flat_map (payoffs_of g) (numbers (length g.types)))

-- there is a type, each type has an action, and each prior is at least 1
pub record IsPeopled (g : Game) : Type 0 where
  pub types : 1 ≤ length g.types
  pub actions : (l : ℕ) → 1 ≤ l → l ≤ length g.types → 1 ≤ action_count g l
  pub priors : (l : ℕ) → 1 ≤ l → l ≤ length g.types → pos 1 ≤ℤ (attacker g l).prior
