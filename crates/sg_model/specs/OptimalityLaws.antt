-- What holds of values, upper bounds and optimal commitments in every game.
use Rattle.std.specs.Prelude.{◌≡◌, ◌↔◌, ℕ, ◌≤◌, List, ◌∷◌, length, ℤ, pos, ◌+ℤ◌, ◌*ℤ◌, ◌≤ℤ◌, IsPermutation}
use Rattle.sg_model.specs.declared.ticket.Ticket.{Ticket}
use Rattle.sg_model.specs.Sums.{total, numbers}
use Rattle.sg_model.specs.Games.{Game, attacker}
use Rattle.sg_model.specs.Plays.{pay_d}
use Rattle.sg_model.specs.Payoffs.{IsPeopled}
use Rattle.sg_model.specs.PayoffLaws.{IsBestResponse}
use Rattle.sg_model.specs.Commitments.{IsCommitment, IsValue, cover_count, scaled, sum_a, sum_d, weight_on, weight_total, worth}
use Rattle.sg_model.specs.Optimality.{IsOptimal, IsUpperBound}

-- an upper bound num / den is at least the value a / b of every commitment
abbrev pub BoundIsAbove : Type 0
BoundIsAbove = (g : Game) → IsPeopled g → (num den : ℤ) → IsUpperBound g num den
    → (k : List Ticket) → IsCommitment g k → (a b : ℤ) → IsValue g k a b → (a *ℤ den) ≤ℤ (num *ℤ b)

-- two optimal commitments have the same value
abbrev pub OptimalValueIsOne : Type 0
OptimalValueIsOne = (g : Game) (k other : List Ticket) → IsCommitment g k → IsCommitment g other → IsOptimal g k → IsOptimal g other
    → worth g k *ℤ weight_total other ≡ worth g other *ℤ weight_total k

-- a commitment is optimal just where its value is an upper bound
abbrev pub OptimalIsBound : Type 0
OptimalIsBound = (g : Game) (k : List Ticket) → IsCommitment g k → (num den : ℤ) → IsValue g k num den → (IsOptimal g k ↔ IsUpperBound g num den)

-- an optimal commitment's value num / den is an upper bound, and no upper bound a / b is below it
abbrev pub OptimalIsLeastBound : Type 0
OptimalIsLeastBound = (g : Game) → IsPeopled g → (k : List Ticket) → IsCommitment g k → IsOptimal g k → (num den : ℤ) → IsValue g k num den
    → IsUpperBound g num den × ((a b : ℤ) → IsUpperBound g a b → (num *ℤ b) ≤ℤ (a *ℤ den))

-- to multiply all weights by one number of at least 1 changes no value, and nothing of what is a commitment and what is optimal
abbrev pub ScalingKeeps : Type 0
ScalingKeeps = (g : Game) (c : ℤ) → pos 1 ≤ℤ c → (k : List Ticket)
    → (IsCommitment g k ↔ IsCommitment g (scaled c k))
    × ((num den : ℤ) → IsValue g k num den ↔ IsValue g (scaled c k) num den)
    × (IsOptimal g k ↔ IsOptimal g (scaled c k))

-- two lists of tickets give each play the same weight
abbrev pub AreOneMix : List Ticket → List Ticket → Type 0
AreOneMix k other = (play : List ℕ) → weight_on k play ≡ weight_on other play

-- they do where one is the other in another order, and where two tickets with the same play are joined into one
abbrev pub OrderAndJoiningKeepMix : Type 0
OrderAndJoiningKeepMix =
    ((k other : List Ticket) → IsPermutation k other → AreOneMix k other)
    × ((x y : Ticket) (k : List Ticket) → x.play.code ≡ y.play.code → AreOneMix (x ∷ y ∷ k) (record x { weight = x.weight +ℤ y.weight } ∷ k))

-- two lists that give each play the same weight have the same sums, value and optimality
abbrev pub SameMixKeeps : Type 0
SameMixKeeps = (g : Game) (k other : List Ticket) → AreOneMix k other
    → (weight_total k ≡ weight_total other)
    × ((t : ℕ) → cover_count g k t ≡ cover_count g other t)
    × ((l a : ℕ) → (sum_d g k l a ≡ sum_d g other l a) × (sum_a g k l a ≡ sum_a g other l a))
    × (worth g k ≡ worth g other)
    × ((num den : ℤ) → IsValue g k num den ↔ IsValue g other num den)
    × (IsOptimal g k ↔ IsOptimal g other)

-- an answer of each type: a best response, and no best response gives the defender more
pub record AreAnswers (g : Game) (k : List Ticket) (answer : ℕ → ℕ) : Type 0 where
  pub best : (l : ℕ) → 1 ≤ l → l ≤ length g.types → IsBestResponse g k l (answer l)
  pub most : (l a : ℕ) → 1 ≤ l → l ≤ length g.types → IsBestResponse g k l a → sum_d g k l a ≤ℤ sum_d g k l (answer l)

-- for each type and each ticket, prior times weight times z, summed
abbrev pub over_all : Game → List Ticket → (ℕ → Ticket → ℤ) → ℤ
over_all g k z = total (λ l. total (λ (x : Ticket). ((attacker g l).prior *ℤ x.weight) *ℤ z l x) k) (numbers (length g.types))

-- there are such answers, and a commitment's value is the mean, by priors and weights, of what the defender gets where each type answers so
abbrev pub ValueIsMean : Type 0
ValueIsMean = (g : Game) → IsPeopled g → (k : List Ticket)
    → ((answer : ℕ → ℕ) × AreAnswers g k answer)
    × ((answer : ℕ → ℕ) → AreAnswers g k answer → (num den : ℤ)
    → IsValue g k num den ↔ ((pos 1 ≤ℤ den) × (over_all g k (λ l x. pay_d g l x.play.code (answer l)) *ℤ den ≡ num *ℤ over_all g k (λ l x. pos 1))))
