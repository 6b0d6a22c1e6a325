-- The parts of a point by the columns of the coverage table.
use Rattle.std.specs.Prelude.{◌≡◌, ℕ, ◌-◌, ◌≤◌, if◌then◌else◌, List, length, slice_index_or, ℤ, pos, ◌≤ℤ◌, ◌<ℤ◌, All, FitsSigned, None}
use Rattle.std.specs.Int.{int_max, w128}
use Rattle.sg_num.specs.Operations.{first_wide}
use Rattle.sg_model.specs.Games.{Game}
use Rattle.sg_model.specs.Sums.{total}
use Rattle.sg_tree.specs.declared.fix.Fix.{Fix}
use Rattle.sg_bounds.specs.Coverage as table
use Rattle.sg_rows.specs.Rows.{place}
use Rattle.sg_lp.specs.States.{IsTableau, Tableau}
use Rattle.sg_programs.specs.CoverFilling.{amount_left}
use Rattle.sg_programs.specs.CoverPoints.{is_same_column}
use Rattle.sg_programs.specs.CoverPrograms.{cover_program, number_in_table, table_column}
use Rattle.sg_programs.specs.Points.{point_steps}
use Rattle.sg_dual.specs.declared.part.Part.{Part}
use Rattle.sg_dual.specs.Parts.{point_parts}
use Rattle.sg_eraser.specs.declared.table.CoverColumn.{CoverColumn}
use Rattle.sg_eraser.specs.declared.table.CoverColumn.TheVariants as column
use Rattle.sg_eraser.specs.TableValues.{meant_column}

-- the weight that parts give a column of the table
abbrev pub amount_in : Game → List Part → table.Column → ℤ
amount_in g parts c = total (λ (x : Part). if is_same_column (table_column g x.col) c then x.weight else pos 0) parts

-- the weight of a part whose column is that one in a list of the columns, else 0
abbrev pub weight_for : List CoverColumn → CoverColumn → Part → ℤ
weight_for columns want x = if is_same_column (meant_column (slice_index_or columns (number_in_table x.col - 1) column.Always)) (meant_column want) then x.weight else pos 0

-- the number of a part's column is one of so many
pub record IsNumbered (count : ℕ) (x : Part) : Type 0 where
  pub from_one : 1 ≤ number_in_table x.col
  pub in_table : number_in_table x.col ≤ count

-- parts with numbers of the table, weights not below 0, and a total of them that fits
pub record AreWeighed (count : ℕ) (parts : List Part) : Type 0 where
  pub numbered : All (IsNumbered count) parts
  pub low : All (λ (x : Part). pos 0 ≤ℤ x.weight) parts
  pub room : FitsSigned w128 (total (λ (x : Part). x.weight) parts)

-- the parts are those of the point of a state of the node's program, whose first multiplier isn't 0; and the values under it fit
pub record IsCoverPoint (g : Game) (fix : Fix) (parts : List Part) : Type 0 where
  pub state : Tableau
  pub is_state : IsTableau (cover_program g fix) state
  pub above : pos 0 <ℤ place state.y 0
  pub formed : first_wide (point_steps (cover_program g fix) state) ≡ None
  pub parts_are : parts ≡ point_parts (cover_program g fix) state

-- how much of each target's amount is left for choice j of resource r and those behind it
pub record AreLeft (g : Game) (a : table.Column → ℤ) (r j : ℕ) (left : List ℤ) : Type 0 where
  pub long : length left ≡ length g.goals
  pub each : (u : ℕ) → 1 ≤ u → u ≤ length g.goals → slice_index_or left (u - 1) (pos 0) ≡ int_max (pos 0) (amount_left g a u r j)
