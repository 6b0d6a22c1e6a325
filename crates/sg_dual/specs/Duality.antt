-- Weak and strong duality of linear programs by columns.
use Rattle.std.specs.Prelude.{◌≡◌, ℕ, ◌<◌, ◌≤◌, List, ℤ, pos, ◌*ℤ◌, ◌<ℤ◌, ◌≤ℤ◌, All, Contains}
use Rattle.sg_model.specs.Sums.{total}
use Rattle.sg_linear.specs.Sums.{unit}
use Rattle.sg_rows.specs.Rows.{place}
use Rattle.sg_lp.specs.Programs.{IsWithinLimits, Program}
use Rattle.sg_lp.specs.Moves.{IsFinal}
use Rattle.sg_lp.specs.Points.{IsDual}
use Rattle.sg_lp.specs.States.{IsTableau, Tableau}
use Rattle.sg_programs.specs.Points.{point_whole}
use Rattle.sg_dual.specs.declared.part.Part.{Part}
use Rattle.sg_dual.specs.Parts.{point_parts}

-- what weighted columns have in a row, and what they cost
abbrev pub point_row_total : Program → List Part → ℕ → ℤ
point_row_total p parts j = total (λ (x : Part). x.weight *ℤ p.entry x.col j) parts

abbrev pub cost_total : Program → List Part → ℤ
cost_total p parts = total (λ (x : Part). x.weight *ℤ p.cost x.col) parts

-- a primal solution, its weights over a whole: columns of the program, none with a weight below 0, that together have at most the whole in row 0 and
-- at most 0 in each other row
pub record IsFeasible (p : Program) (parts : List Part) (whole : ℤ) : Type 0 where
  pub positive : pos 0 <ℤ whole
  pub columns : All (λ (x : Part). Contains p.columns x.col) parts
  pub nonnegative : All (λ (x : Part). pos 0 ≤ℤ x.weight) parts
  pub rows : (j : ℕ) → j < p.height → point_row_total p parts j ≤ℤ (whole *ℤ unit 0 j)

-- weak duality: no primal solution costs more than a dual solution, the multipliers of a tableau over its denominator, allows
abbrev pub WeakDuality : Type 0
WeakDuality = (p : Program) (t : Tableau) → 1 ≤ p.height → IsDual p t → (parts : List Part) (whole : ℤ) → IsFeasible p parts whole
    → (t.rho *ℤ cost_total p parts) ≤ℤ (whole *ℤ place t.y 0)

-- strong duality: at a final state the multipliers are a dual solution, the point is a primal one, and both have one value
pub record AreOfOneValue (p : Program) (t : Tableau) : Type 0 where
  pub dual : IsDual p t
  pub primal : IsFeasible p (point_parts p t) (pos (point_whole p t))
  pub equal : t.rho *ℤ cost_total p (point_parts p t) ≡ pos (point_whole p t) *ℤ place t.y 0

abbrev pub StrongDuality : Type 0
StrongDuality = (p : Program) (t : Tableau) → IsWithinLimits p → IsTableau p t → IsFinal p t → AreOfOneValue p t

-- so the point is optimal: no primal solution has a greater value
abbrev pub PointIsOptimal : Type 0
PointIsOptimal = (p : Program) (t : Tableau) → IsWithinLimits p → IsTableau p t → IsFinal p t → (parts : List Part) (whole : ℤ) → IsFeasible p parts whole
    → (cost_total p parts *ℤ pos (point_whole p t)) ≤ℤ (cost_total p (point_parts p t) *ℤ whole)
