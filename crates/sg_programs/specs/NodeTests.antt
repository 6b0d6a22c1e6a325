-- The tests of a node: when its run ends, what closes it, and what stops it.
use Rattle.std.specs.Prelude.{◌≡◌, ◌≢◌, ◌⊎◌, ℕ, ◌<◌, List, [], ◌++◌, ◌∷◌, if◌then◌else◌, ℤ, Option, Some, None}
use Rattle.sg_num.specs.declared.step.Wide.{Wide}
use Rattle.sg_model.specs.Games.{Game}
use Rattle.sg_commit.specs.Committed.{Committed}
use Rattle.sg_tree.specs.declared.fact.Fact.{Fact}
use Rattle.sg_tree.specs.declared.fix.Fix.{Fix}
use Rattle.sg_tree.specs.declared.report.Cause.{Cause}
use Rattle.sg_tree.specs.declared.report.Cause.TheVariants as cause
use Rattle.sg_search.specs.Results.{IsPointOf}
use Rattle.sg_lp.specs.declared.column.Column.{Column}
use Rattle.sg_lp.specs.Programs.{Program}
use Rattle.sg_lp.specs.Moves.{NamedStep, Runs, under_name}
use Rattle.sg_lp.specs.States.{Tableau}
use Rattle.sg_lp.specs.Listing.{enters, listing_answer, listing_looks, price_steps}
use Rattle.sg_simplex.specs.Turns.{HasCause, Pricer}
use Rattle.sg_simplex.specs.declared.turn.Turn.{Turn}
use Rattle.sg_simplex.specs.declared.turn.Turn.TheVariants as turn
use Rattle.sg_programs.specs.Plays.{plays_program}
use Rattle.sg_programs.specs.Shown.{EndShows, IsPointAt, fact_at}

-- how the nodes of a game are run over its plays: what pricing answers at a node, how many looks it takes there, which values it forms at a state;
-- and how many moves and looks a node may make
pub record Method : Type 0 where
  pub answer : Fix → Pricer
  pub needed : Fix → List ℤ → ℤ → ℕ
  pub prices : Fix → Tableau → List NamedStep
  pub pivots : ℕ
  pub looks : ℕ

-- what testing columns in turn forms, up to the first that enters
abbrev pub listing_steps : Program → List ℤ → ℤ → List Column → List Wide
listing_steps p y rho [] = []
listing_steps p y rho (c ∷ cs) = price_steps p y rho c ++ (if enters p y rho c then [] else listing_steps p y rho cs)

-- the plays listed, and tested in turn
abbrev pub listed_plays : Game → ℕ → ℕ → Method
listed_plays g pivots looks = record {
  answer = λ fix y rho budget. listing_answer (plays_program g fix) y rho budget 0 (plays_program g fix).columns;
  needed = λ fix y rho. listing_looks (plays_program g fix) y rho (plays_program g fix).columns;
  prices = λ fix t. under_name 2 (listing_steps (plays_program g fix) t.y t.rho (plays_program g fix).columns);
  pivots = pivots;
  looks = looks;
}

-- after k moves of a node's run a turn has this answer
pub record TurnAnswers (g : Game) (m : Method) (fix : Fix) (k : ℕ) (t : Tableau) (answer : Turn) : Type 0 where
  pub run : Runs (plays_program g fix) k t
  pub cause : HasCause (plays_program g fix) (m.answer fix) t k m.pivots m.looks answer

-- `ends`: the run ends after k moves, where a turn has another answer than that it moved
abbrev pub EndsNode : Game → Method → Fix → ℕ → Type 0
EndsNode g m fix k = (t : Tableau) × ((answer : Turn) × ((answer ≢ turn.Moved) × TurnAnswers g m fix k t answer))

-- the first such number of moves, the state there and the answer
pub record IsNodeEnd (g : Game) (m : Method) (fix : Fix) (k : ℕ) (t : Tableau) (answer : Turn) : Type 0 where
  pub other : answer ≢ turn.Moved
  pub answers : TurnAnswers g m fix k t answer
  pub first : (j : ℕ) → j < k → ¬ (EndsNode g m fix j)

-- `closes`: the run is done and shows no value that doesn't fit; the fact is its multipliers; and the point is its point, a commitment of the node's
-- region that reaches the fact's bound, or none where the region is empty
pub record ClosesNode (g : Game) (m : Method) (fix : Fix) (fact : Fact) (point : Option Committed) : Type 0 where
  pub moves : ℕ
  pub state : Tableau
  pub end : IsNodeEnd g m fix moves state turn.Done
  pub shows : EndShows g fix state None
  pub fact_is : fact ≡ fact_at g fix state
  pub point_is : IsPointAt g fix state point
  pub reaches : IsPointOf g fix fact point

-- what a cause says of a node whose run ends after k moves at t, with this answer: which budget was spent, or the first value that doesn't fit, in a
-- turn or at the end of a run that is done
abbrev pub CauseSays : Game → Method → Fix → ℕ → Tableau → Turn → Cause → Type 0
CauseSays g m fix k t answer (cause.Nodes n) = ⊥
CauseSays g m fix k t answer (cause.Pivots budget node) = (answer ≡ turn.PivotsSpent) × (budget ≡ m.pivots) × (node ≡ fix)
CauseSays g m fix k t answer (cause.Looks budget step node) = (answer ≡ turn.LooksSpent) × (budget ≡ m.looks) × (step ≡ k) × (node ≡ fix)
CauseSays g m fix k t answer (cause.Wide name w step node) =
    ((answer ≡ turn.Wide name w) ⊎ ((answer ≡ turn.Done) × EndShows g fix t (Some (record { name = name; step = w })))) × (step ≡ k) × (node ≡ fix)

-- `stops`: the cause says what ended the run
pub record StopsNode (g : Game) (m : Method) (fix : Fix) (why : Cause) : Type 0 where
  pub moves : ℕ
  pub state : Tableau
  pub answer : Turn
  pub end : IsNodeEnd g m fix moves state answer
  pub says : CauseSays g m fix moves state answer why
