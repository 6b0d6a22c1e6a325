-- What the greatest payoff and the shift say of every play and commitment.
use Rattle.std.specs.Prelude.{◌≡◌, ℕ, ◌≤◌, List, length, ℤ, pos, ◌+ℤ◌, ◌*ℤ◌, ◌≤ℤ◌, Contains}
use Rattle.sg_model.specs.declared.ticket.Ticket.{Ticket}
use Rattle.sg_model.specs.Sums.{total, numbers}
use Rattle.sg_model.specs.Games.{Game, action_count, attacker, prior_total}
use Rattle.sg_model.specs.Plays.{IsLegal, pay_d}
use Rattle.sg_model.specs.Payoffs.{IsPeopled, greatest_of, payoffs_at, shift_of}
use Rattle.sg_model.specs.Commitments.{IsCommitment, sum_a, sum_d, take_of, weight_total}
use Rattle.sg_model.specs.Optimality.{IsUpperBound}

-- what the defender gets of a legal play is one of the payoffs that it may get there
abbrev pub PayoffsAreListed : Type 0
PayoffsAreListed = (g : Game) (play : List ℕ) → IsLegal g play → (l a : ℕ) → Contains (payoffs_at g l a) (pay_d g l play a)

-- it is at most the greatest against that type, and with the shift at least 1
abbrev pub PayoffsAreBounded : Type 0
PayoffsAreBounded = (g : Game) (play : List ℕ) → IsLegal g play → (l : ℕ) → 1 ≤ l → l ≤ length g.types → (a : ℕ) → 1 ≤ a → a ≤ action_count g l
    → (pay_d g l play a ≤ℤ greatest_of g l) × (pos 1 ≤ℤ (pay_d g l play a +ℤ shift_of g))

-- an action of type l from which no other action of that type gives it more
pub record IsBestResponse (g : Game) (k : List Ticket) (l a : ℕ) : Type 0 where
  pub from_one : 1 ≤ a
  pub in_range : a ≤ action_count g l
  pub best : (b : ℕ) → 1 ≤ b → b ≤ action_count g l → sum_a g k l b ≤ℤ sum_a g k l a

-- what the defender gets of a best response of type l, and no best response gives more: the tie goes to the defender
pub record IsTake (g : Game) (k : List Ticket) (l : ℕ) (taken : ℤ) : Type 0 where
  pub response : ℕ
  pub is_best : IsBestResponse g k l response
  pub gives : taken ≡ sum_d g k l response
  pub most : (a : ℕ) → IsBestResponse g k l a → sum_d g k l a ≤ℤ taken

-- which is what a type with an action leaves the defender, and nothing else is
abbrev pub TakeIsOfBestResponses : Type 0
TakeIsOfBestResponses = (g : Game) (k : List Ticket) (l : ℕ) → 1 ≤ action_count g l
    → IsTake g k l (take_of g k l) × ((taken : ℤ) → IsTake g k l taken → taken ≡ take_of g k l)

-- what a type leaves the defender is at most its greatest payoff for each ticket
abbrev pub TakeIsBounded : Type 0
TakeIsBounded = (g : Game) → IsPeopled g → (k : List Ticket) → IsCommitment g k → (l : ℕ) → 1 ≤ l → l ≤ length g.types
    → take_of g k l ≤ℤ (greatest_of g l *ℤ weight_total k)

-- so the greatest payoffs, weighted by the priors, are an upper bound
abbrev pub GreatestIsBound : Type 0
GreatestIsBound = (g : Game) → IsPeopled g → IsUpperBound g (total (λ l. (attacker g l).prior *ℤ greatest_of g l) (numbers (length g.types))) (prior_total g)
