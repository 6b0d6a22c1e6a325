-- How the value of tickets is formed: sums over the tickets, the best actions, and what is taken of them.
use Rattle.std.specs.Prelude.{◌≡◌, ℕ, ◌≤◌, List, ℤ, pos, ◌*ℤ◌, ◌≤ℤ◌, All, MatchOption, Option, Some, None}
use Rattle.sg_model.specs.declared.ticket.Ticket.{Ticket}
use Rattle.sg_model.specs.Games.{Game, action_count, prior_total}
use Rattle.sg_model.specs.Plays.{pay_a, pay_d}
use Rattle.sg_model.specs.Commitments.{sum_a, sum_d, weight_total, worth}
use Rattle.sg_num.specs.Exact.{Fits}
use Rattle.sg_bounds.specs.Sizes.{pay_sums}
use Rattle.sg_check.specs.declared.value.Best.{Best}
use Rattle.sg_check.specs.declared.quotient.Quotient.{Quotient}

-- a number is formed: it is the one that is meant and all numbers under it fit, or there is none and one of them doesn't
abbrev pub Forms : Option ℤ → List ℤ → ℤ → Type 0
Forms made under value = MatchOption made (All Fits under → ⊥) (λ v. All Fits under × (v ≡ value))

-- the numbers under what type l gets from action a, and under what the defender gets where it takes a
abbrev pub under_a : Game → List Ticket → ℕ → ℕ → List ℤ
under_a g k l a = pay_sums (λ play. pay_a g l play a) (pos 0) k

abbrev pub under_d : Game → List Ticket → ℕ → ℕ → List ℤ
under_d g k l a = pay_sums (λ play. pay_d g l play a) (pos 0) k

-- of actions 1 to n of type l, one has this sum, and none a greater one
pub record IsBestOf (g : Game) (k : List Ticket) (l n : ℕ) (best : Best) : Type 0 where
  pub from_one : 1 ≤ best.action
  pub in_range : best.action ≤ n
  pub sum : sum_a g k l best.action ≡ best.sum
  pub most : (a : ℕ) → 1 ≤ a → a ≤ n → sum_a g k l a ≤ℤ best.sum

-- of actions 1 to n of type l, all sums of the type fit
abbrev pub AreSumsFormed : Game → List Ticket → ℕ → ℕ → Type 0
AreSumsFormed g k l n = (a : ℕ) → 1 ≤ a → a ≤ n → All Fits (under_a g k l a)

-- of actions 1 to n of type l, the defender's sums of the best ones fit
abbrev pub BestAreFormed : Game → List Ticket → ℕ → ℕ → ℤ → Type 0
BestAreFormed g k l n top = (a : ℕ) → 1 ≤ a → a ≤ n → sum_a g k l a ≡ top → All Fits (under_d g k l a)

-- a best action of type l with this sum of the defender, and of actions 1 to n no best one has a greater
pub record IsTakenSum (g : Game) (k : List Ticket) (l n : ℕ) (top taken : ℤ) : Type 0 where
  pub reached : (a : ℕ) × (1 ≤ a) × (a ≤ action_count g l) × (sum_a g k l a ≡ top) × (sum_d g k l a ≡ taken)
  pub most : (a : ℕ) → 1 ≤ a → a ≤ n → sum_a g k l a ≡ top → sum_d g k l a ≤ℤ taken

-- the worth of the tickets, over their total times the priors
pub record IsWorthOf (g : Game) (k : List Ticket) (q : Quotient) : Type 0 where
  pub num : q.num ≡ worth g k
  pub den : q.den ≡ weight_total k *ℤ prior_total g

-- the parts of a value, where both are there
abbrev pub paired : Option ℤ → Option ℤ → Option Quotient
paired (Some num) (Some den) = Some (record { num = num; den = den })
paired (Some num) None = None
paired None den = None
