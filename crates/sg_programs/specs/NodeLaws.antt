-- What holds of the tests of nodes.
use Rattle.std.specs.Prelude.{◌≡◌, ℕ, ◌<◌, ◌≤◌, List, length, ℤ, pos, Option, Some, None}
use Rattle.sg_num.specs.declared.step.Wide.{Wide}
use Rattle.sg_model.specs.Games.{Game}
use Rattle.sg_model.specs.Limits.{IsGame}
use Rattle.sg_commit.specs.Committed.{Committed}
use Rattle.sg_tree.specs.declared.fact.Fact.{Fact}
use Rattle.sg_tree.specs.declared.fix.Fix.{Fix}
use Rattle.sg_tree.specs.declared.report.Cause.{Cause}
use Rattle.sg_tree.specs.declared.report.Cause.TheVariants as cause
use Rattle.sg_bounds.specs.Regions.{IsFix, IsNode}
use Rattle.sg_search.specs.Results.{IsResult}
use Rattle.sg_lp.specs.declared.column.Column.{Column}
use Rattle.sg_lp.specs.Moves.{first_shown}
use Rattle.sg_lp.specs.Pricing.{AnswerMeans, clean, found, wide}
use Rattle.sg_lp.specs.Programs.{enough_pivots}
use Rattle.sg_lp.specs.States.{Tableau}
use Rattle.sg_simplex.specs.declared.turn.Turn.{Turn}
use Rattle.sg_programs.specs.CauseRows.{NodeCause}
use Rattle.sg_programs.specs.Enough.{enough_looks}
use Rattle.sg_programs.specs.NodeTests.{ClosesNode, IsNodeEnd, Method, StopsNode, listed_plays}
use Rattle.sg_programs.specs.Plays.{plays_program}

-- what every method keeps at a node: its pricing means what it answers; it answers that a value doesn't fit with the first that it forms, and a column
-- or that there is none only where all that it forms fit; and its looks are no more than are enough
pub record IsMethodAt (g : Game) (m : Method) (fix : Fix) : Type 0 where
  pub means : (y : List ℤ) (rho : ℤ) (budget : ℕ) → length y ≡ (plays_program g fix).height → AnswerMeans (plays_program g fix) y rho (m.needed fix y rho) budget (m.answer fix y rho budget)
  pub wide : (t : Tableau) (budget name : ℕ) (w : Wide) → m.answer fix t.y t.rho budget ≡ wide name w → first_shown (m.prices fix t) ≡ Some (record { name = name; step = w })
  pub found : (t : Tableau) (budget : ℕ) (c : Column) → m.answer fix t.y t.rho budget ≡ found c → first_shown (m.prices fix t) ≡ None
  pub clean : (t : Tableau) (budget n : ℕ) → m.answer fix t.y t.rho budget ≡ clean n → first_shown (m.prices fix t) ≡ None
  pub few : (y : List ℤ) (rho : ℤ) → m.needed fix y rho ≤ enough_looks g

-- listing the plays keeps it
abbrev pub ListingIsMethod : Type 0
ListingIsMethod = (g : Game) → IsGame g → g.scale ≡ pos 0 → (fix : Fix) → IsFix g fix → (pivots looks : ℕ) → IsMethodAt g (listed_plays g pivots looks) fix

-- a node's run has one end
abbrev pub NodeEndIsOne : Type 0
NodeEndIsOne = (g : Game) → IsGame g → g.scale ≡ pos 0 → (fix : Fix) → IsFix g fix → (m : Method) (j k : ℕ) (t u : Tableau) (a b : Turn)
    → IsNodeEnd g m fix j t a → IsNodeEnd g m fix k u b → (j ≡ k) × (t ≡ u) × (a ≡ b)

-- what closes a node is a result of the search: a fact that holds for it, a point that reaches the fact's bound, and numbers that fit
abbrev pub ClosedIsResult : Type 0
ClosedIsResult = (g : Game) → IsGame g → g.scale ≡ pos 0 → (fix : Fix) → IsNode g fix → (m : Method) (fact : Fact) (point : Option Committed)
    → ClosesNode g m fix fact point → IsResult g (record { fix = fix; fact = fact; point = point })

-- what stops a node says what it says: the run isn't final at the budget of moves, more looks are needed than the budget has, or the state shows the value
abbrev pub StopIsCause : Type 0
StopIsCause = (g : Game) → IsGame g → g.scale ≡ pos 0 → (fix : Fix) → IsFix g fix → (m : Method) → IsMethodAt g m fix → (why : Cause) → StopsNode g m fix why → NodeCause g m fix why

-- and it is fewer moves than there are bases
abbrev pub PivotsAreFew : Type 0
PivotsAreFew = (g : Game) → IsGame g → g.scale ≡ pos 0 → (fix : Fix) → IsFix g fix → (m : Method) (budget : ℕ) (node : Fix) → StopsNode g m fix (cause.Pivots budget node)
    → budget < enough_pivots (plays_program g fix)

-- a node has one cause, and none where it is closed
abbrev pub NodeStopIsOne : Type 0
NodeStopIsOne = (g : Game) → IsGame g → g.scale ≡ pos 0 → (fix : Fix) → IsFix g fix → (m : Method) (why other : Cause) → StopsNode g m fix why → StopsNode g m fix other → why ≡ other

abbrev pub ClosedIsNotStopped : Type 0
ClosedIsNotStopped = (g : Game) → IsGame g → g.scale ≡ pos 0 → (fix : Fix) → IsFix g fix → (m : Method) (fact : Fact) (point : Option Committed) (why : Cause)
    → ClosesNode g m fix fact point → ¬ (StopsNode g m fix why)
