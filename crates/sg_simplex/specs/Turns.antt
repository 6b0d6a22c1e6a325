-- What a turn of a node answers.
use Rattle.std.specs.Prelude.{◌≡◌, ◌⊎◌, ℕ, ◌+◌, ◌<◌, ◌≤◌, List, ℤ, Some, None}
use Rattle.sg_num.specs.declared.step.Wide.{Wide}
use Rattle.sg_lp.specs.Programs.{Program}
use Rattle.sg_lp.specs.Pricing.{Answer, clean, found, spent, wide}
use Rattle.sg_lp.specs.States.{Tableau}
use Rattle.sg_lp.specs.Moves.{AreAbove, IsEntering, IsFinal, IsLeaving, IsNext, first_shown, move_steps}
use Rattle.sg_lp.specs.declared.column.Enter.{Enter}
use Rattle.sg_lp.specs.declared.column.Enter.TheVariants.{Slack, Col}
use Rattle.sg_simplex.specs.declared.turn.Turn.{Turn}
use Rattle.sg_simplex.specs.declared.turn.Turn.TheVariants as turn
use Rattle.sg_simplex.specs.Nodes.{NodeView}

-- what a family's pricing answers, of multipliers, their denominator and a budget
abbrev pub Pricer : Type 0
Pricer = List ℤ → ℤ → ℕ → Answer

-- no slack enters, and pricing answers so
pub record IsPriced (price : Pricer) (t : Tableau) (looks : ℕ) (answer : Answer) : Type 0 where
  pub above : AreAbove t.y
  pub answers : price t.y t.rho looks ≡ answer

-- the state is final, and pricing found no column
pub record IsAtEnd (p : Program) (price : Pricer) (t : Tableau) (looks : ℕ) : Type 0 where
  pub final : IsFinal p t
  pub count : ℕ
  pub priced : IsPriced price t looks (clean count)

-- the member that enters, and that it is known to: a slack by its multiplier, a column by pricing
abbrev pub EntersBy : Program → Pricer → Tableau → ℕ → Enter → Type 0
EntersBy p price t looks (Slack i) = IsEntering p t (Slack i)
EntersBy p price t looks (Col c) = IsEntering p t (Col c) × (price t.y t.rho looks ≡ found c)

-- a member enters, and as many moves were made as may be
pub record IsSpent (p : Program) (price : Pricer) (t : Tableau) (steps pivots looks : ℕ) : Type 0 where
  pub member : Enter
  pub enters : EntersBy p price t looks member
  pub spent_all : pivots ≤ steps

-- a member enters, a row leaves, and a move may be made, but one of its values doesn't fit: the first in the order in which they are formed
pub record IsWideMove (p : Program) (price : Pricer) (t : Tableau) (steps pivots looks name : ℕ) (w : Wide) : Type 0 where
  pub member : Enter
  pub enters : EntersBy p price t looks member
  pub row : ℕ
  pub leaves : IsLeaving p t member row
  pub room : steps < pivots
  pub shown : first_shown (move_steps p t member row) ≡ Some (record { name = name; step = w })

-- the causes of the answers after which a node stays as it was
abbrev pub Stays : Program → Pricer → Tableau → (steps pivots looks : ℕ) → Turn → Type 0
Stays p price t steps pivots looks turn.Moved = ⊥
Stays p price t steps pivots looks turn.Done = IsAtEnd p price t looks
Stays p price t steps pivots looks turn.PivotsSpent = IsSpent p price t steps pivots looks
Stays p price t steps pivots looks turn.LooksSpent = IsPriced price t looks spent
Stays p price t steps pivots looks (turn.Wide name w) = IsPriced price t looks (wide name w) ⊎ IsWideMove p price t steps pivots looks name w

-- the state moves to the next one, and all values of the move fit
pub record HasMoved (p : Program) (price : Pricer) (t u : Tableau) (steps pivots looks : ℕ) : Type 0 where
  pub next : IsNext p t u
  pub enters : EntersBy p price t looks next.entering
  pub room : steps < pivots
  pub fit : first_shown (move_steps p t next.entering next.leaving) ≡ None

-- what a turn answers, and how the node stands then
abbrev pub Turns : {F : Type 0} → (F → Program) → (F → Pricer) → NodeView F → NodeView F → Turn → Type 0
Turns program price v u turn.Moved = HasMoved (program v.family) (price v.family) v.tableau u.tableau v.steps v.pivots v.looks × (u ≡ record v { tableau = u.tableau; steps = v.steps + 1 })
Turns program price v u turn.Done = Stays (program v.family) (price v.family) v.tableau v.steps v.pivots v.looks turn.Done × (u ≡ v)
Turns program price v u turn.PivotsSpent = Stays (program v.family) (price v.family) v.tableau v.steps v.pivots v.looks turn.PivotsSpent × (u ≡ v)
Turns program price v u turn.LooksSpent = Stays (program v.family) (price v.family) v.tableau v.steps v.pivots v.looks turn.LooksSpent × (u ≡ v)
Turns program price v u (turn.Wide name w) = Stays (program v.family) (price v.family) v.tableau v.steps v.pivots v.looks (turn.Wide name w) × (u ≡ v)

-- what an answer of a turn comes of
abbrev pub HasCause : Program → Pricer → Tableau → (steps pivots looks : ℕ) → Turn → Type 0
HasCause p price t steps pivots looks turn.Moved = (u : Tableau) × HasMoved p price t u steps pivots looks
HasCause p price t steps pivots looks turn.Done = Stays p price t steps pivots looks turn.Done
HasCause p price t steps pivots looks turn.PivotsSpent = Stays p price t steps pivots looks turn.PivotsSpent
HasCause p price t steps pivots looks turn.LooksSpent = Stays p price t steps pivots looks turn.LooksSpent
HasCause p price t steps pivots looks (turn.Wide name w) = Stays p price t steps pivots looks (turn.Wide name w)
