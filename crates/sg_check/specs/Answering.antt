-- What a run over tests of a report answers: nothing where all pass, else the first that fails.
use Rattle.std.specs.Prelude.{◌≡◌, ℕ, ◌+◌, ◌-◌, ◌^◌, List, [], ◌∷◌, ◌++◌, length, pos, ◌≤ℤ◌, All, min, Option, Some, None, Result, Ok, Err}
use Rattle.sg_frac.specs.Fractions.{Fraction, IsReduced, IsReducedForm}
use Rattle.sg_model.specs.Games.{Game}
use Rattle.sg_tree.specs.declared.fact.Fact.{Fact}
use Rattle.sg_tree.specs.declared.report.Report.{Report}
use Rattle.sg_bounds.specs.Accepted.{IsGreatest}
use Rattle.sg_bounds.specs.Checking.{Stop, AllPass, FirstFails, base_lines, base_stops, part_lines, part_stops, root_stops, tree_lines, tree_stops}
use Rattle.sg_bounds.specs.Leaves.{base_bound, leaf_bounds, listed, part_bounds, root_bound, tree_bounds_of}
use Rattle.sg_bounds.specs.Trees.{Node, Parts, split}
use Rattle.sg_check.specs.Parts.{fork_stops}
use Rattle.sg_check.specs.declared.refusal.Refusal.{Refusal}
use Rattle.sg_check.specs.declared.fork.Fork.{Fork}
use Rattle.sg_check.specs.declared.top.Top.{Top}

-- a line number as 64 bits hold it: it stands still at their greatest
abbrev pub held_line : ℕ → ℕ
held_line n = min n (2 ^ 64 - 1)

-- the first of these tests that fails has this line and reason
abbrev pub TellsFirst : Game → Report → List Stop → Refusal → Type 0
TellsFirst g r stops f = (n : ℕ) × FirstFails g r stops n f.reason × (f.line ≡ held_line n)

-- all of these tests pass, or the first that fails is told
abbrev pub AnswersTests : {X : Type 0} → Game → Report → List Stop → Result X Refusal → Type 0
AnswersTests g r stops (Ok done) = AllPass g r stops
AnswersTests g r stops (Err f) = TellsFirst g r stops f

-- all of these tests pass, and the line n behind them is told, or the first that fails
abbrev pub LineAnswers : Game → Report → List Stop → ℕ → Result ℕ Refusal → Type 0
LineAnswers g r stops n (Ok line) = AllPass g r stops × (line ≡ held_line n)
LineAnswers g r stops n (Err f) = TellsFirst g r stops f

-- there is no bound, or it is this one, in lowest terms
abbrev pub ShowsOnly : List Fraction → Option Fraction → Type 0
ShowsOnly bounds None = bounds ≡ []
ShowsOnly bounds (Some b) = (x : Fraction) × (bounds ≡ x ∷ []) × (pos 1 ≤ℤ x.den) × IsReducedForm x.num x.den b

-- all of these tests pass, and the bound is told, or the first that fails
abbrev pub BoundAnswers : Game → Report → List Stop → List Fraction → Result (Option Fraction) Refusal → Type 0
BoundAnswers g r stops bounds (Ok b) = AllPass g r stops × ShowsOnly bounds b
BoundAnswers g r stops bounds (Err f) = TellsFirst g r stops f

-- all of these tests pass, and the one bound is told, or the first that fails
abbrev pub WaterAnswers : Game → Report → List Stop → List Fraction → Result Fraction Refusal → Type 0
WaterAnswers g r stops bounds (Ok b) = AllPass g r stops × ShowsOnly bounds (Some b)
WaterAnswers g r stops bounds (Err f) = TellsFirst g r stops f

-- the greatest of some bounds, whose denominators are at least 1, in lowest terms
pub record IsGreatestBound (b : Fraction) (bounds : List Fraction) : Type 0 where
  pub reduced : IsReduced b
  pub greatest : IsGreatest b bounds
  pub positive : All (λ (x : Fraction). pos 1 ≤ℤ x.den) bounds

-- the line n behind some tests, and the greatest of their bounds
pub record IsTopOf (top : Top) (bounds : List Fraction) (n : ℕ) : Type 0 where
  pub best : IsGreatestBound top.best bounds
  pub next : top.next ≡ held_line n

-- all of these tests pass, and the greatest of the bounds and the line n behind are told, or the first that fails
abbrev pub TopAnswers : Game → Report → List Stop → List Fraction → ℕ → Result Top Refusal → Type 0
TopAnswers g r stops bounds n (Ok top) = AllPass g r stops × IsTopOf top bounds n
TopAnswers g r stops bounds n (Err f) = TellsFirst g r stops f

-- the tests of a node after these actions, from the line of the top on, with the greatest of its bounds and those before; an open node has the base's
abbrev pub NodeAnswers : Game → Report → List ℕ → Node → Option Fraction → Top → Result Top Refusal → Type 0
NodeAnswers g r acts t base top result =
    (n : ℕ) (above : Option Fraction) (bounds : List Fraction) → ShowsOnly (listed above) base → IsTopOf top bounds n
    → TopAnswers g r (tree_stops n acts t) (bounds ++ leaf_bounds g r.caps (length acts) above t) (n + tree_lines t) result

-- the same of the parts of a split
abbrev pub PartsAnswer : Game → Report → List ℕ → Parts → Option Fraction → Top → Result Top Refusal → Type 0
PartsAnswer g r acts parts base top result =
    (n : ℕ) (above : Option Fraction) (bounds : List Fraction) → ShowsOnly (listed above) base → IsTopOf top bounds n
    → TopAnswers g r (part_stops n acts 1 parts) (bounds ++ part_bounds g r.caps (length acts + 1) above parts) (n + part_lines parts) result

-- a base at line n passes, and the line behind it and the bound of the open parts are told, or the first test that fails
abbrev pub BaseAnswers : Game → Report → List ℕ → Option Fact → ℕ → Option Fraction → Result Fork Refusal → Type 0
BaseAnswers g r acts base n above (Ok fork) =
    AllPass g r (base_stops n acts base) × ShowsOnly (listed (base_bound g r.caps (length acts) above base)) fork.bound × (fork.next ≡ held_line (n + base_lines base))
BaseAnswers g r acts base n above (Err f) = TellsFirst g r (base_stops n acts base) f

-- a split at line n and its base pass, and the line behind the base and the bound of the open parts are told, or the first test that fails
abbrev pub ForkAnswers : Game → Report → List ℕ → ℕ → ℕ → Option Fact → ℕ → Option Fraction → Result Fork Refusal → Type 0
ForkAnswers g r acts l count base n above (Ok fork) =
    AllPass g r (fork_stops n acts l count base) × ShowsOnly (listed (base_bound g r.caps (length acts) above base)) fork.bound × (fork.next ≡ held_line (n + 1 + base_lines base))
ForkAnswers g r acts l count base n above (Err f) = TellsFirst g r (fork_stops n acts l count base) f

-- the tests of a split of the root by type l with an open base at line n, with the greatest of the value and its bounds
abbrev pub FirstAnswers : Game → Report → ℕ → ℕ → Parts → Result Top Refusal → Type 0
FirstAnswers g r n l parts result =
    TopAnswers g r (tree_stops n [] (split l None parts)) (r.value ∷ part_bounds g r.caps 1 (Some (root_bound g)) parts) (n + tree_lines (split l None parts)) result

-- the tests of the root at line n, with the greatest of the value and its bounds
abbrev pub RootAnswers : Game → Report → ℕ → Node → Result Top Refusal → Type 0
RootAnswers g r n t result = TopAnswers g r (root_stops g n t) (r.value ∷ tree_bounds_of g r.caps t) (n + tree_lines t) result
