-- How each type of attacker answers a commitment: by the first of its best actions that give the defender the most.
use Rattle.std.specs.Prelude.{◌≡◌, ℕ, ◌≤◌, ◌<◌, Bool, true, false, ◌&&◌, List, find, Option, Some, IfSome, Result, Ok, Err, IsOk}
use Rattle.std.specs.Ordering.{int_eq}
use Rattle.sg_model.specs.declared.ticket.Ticket.{Ticket}
use Rattle.sg_model.specs.Sums.{numbers}
use Rattle.sg_model.specs.Games.{Game, action_count}
use Rattle.sg_model.specs.Limits.{IsGame}
use Rattle.sg_model.specs.Commitments.{is_best, sum_d, take_of}
use Rattle.sg_num.specs.declared.step.Wide.{Wide}
use Rattle.sg_game.specs.Counts.{IsActionOf, IsTypeOf}
use Rattle.sg_commit.specs.ExactSums.{exact_take}

-- whether type l may answer by action a: it is best for it, and no best action gives the defender more
abbrev pub is_answer : Game → List Ticket → ℕ → ℕ → Bool
is_answer g k l a = is_best g k l a && int_eq (sum_d g k l a) (take_of g k l)

-- the answer of type l: the first such action in file order
abbrev pub answer : Game → List Ticket → ℕ → Option ℕ
answer g k l = find (is_answer g k l) (numbers (action_count g l))

-- a is an action of type l, best for it, it gives the defender the most, and no action before it does both
pub record IsFirstAnswer (g : Game) (k : List Ticket) (l a : ℕ) : Type 0 where
  pub known : IsActionOf g l a
  pub best : is_best g k l a ≡ true
  pub most : sum_d g k l a ≡ take_of g k l
  pub first : (b : ℕ) → 1 ≤ b → b < a → is_answer g k l b ≡ false

-- each type of a game has such an answer
abbrev pub AnswersAreFirst : Type 0
AnswersAreFirst = (g : Game) (k : List Ticket) (l : ℕ) → IsGame g → IsTypeOf g l → (a : ℕ) × (answer g k l ≡ Some a) × IsFirstAnswer g k l a

-- the answer as it is told: an action of the type, once what it takes is formed, else the operation at which that stops
abbrev pub IsExactAnswer : Game → List Ticket → ℕ → Result (Option ℕ) Wide → Type 0
IsExactAnswer g k l (Ok told) = IsOk (exact_take g k l) × (told ≡ answer g k l) × IfSome told (IsActionOf g l)
IsExactAnswer g k l (Err wide) = exact_take g k l ≡ Err wide
