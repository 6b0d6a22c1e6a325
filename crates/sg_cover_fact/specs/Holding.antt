-- The inequalities of the columns.
use Rattle.std.specs.Prelude.{ℕ, ◌≤◌, List, length, ℤ, pos, ◌+ℤ◌, ◌*ℤ◌, ◌≤ℤ◌, slice_index_or}
use Rattle.sg_model.specs.Sums.{nth, total}
use Rattle.sg_model.specs.Games.{Game, resource_schedules, schedule_targets}
use Rattle.sg_tree.specs.declared.fact.Line.{Line}
use Rattle.sg_tree.specs.declared.fix.Fix.{Fix}
use Rattle.sg_bounds.specs.Coverage.{Column, IsColumn, column_cost, entry, whole}
use Rattle.sg_cover_fact.specs.LineSums.{sum_in_column}

-- the sums of the targets of schedule s are together at most so much
abbrev pub ScheduleHolds : Game → List ℤ → ℤ → ℕ → Type 0
ScheduleHolds g held most s = total (λ t. slice_index_or held t (pos 0)) (schedule_targets g s) ≤ℤ most

-- and so for each choice of resource r
abbrev pub ResourceHolds : Game → List ℤ → ℕ → ℤ → Type 0
ResourceHolds g held r most = (j : ℕ) → 1 ≤ j → j ≤ length (resource_schedules g r) → ScheduleHolds g held most (nth (resource_schedules g r) j 0)

-- the inequality of a column: rho times its worth is at most mu times its entry in row 0, with the lines' sum
abbrev pub ColumnHolds : Game → Fix → ℤ → ℤ → List Line → Column → Type 0
ColumnHolds g fix rho mu lines c = (rho *ℤ column_cost g fix c) ≤ℤ ((mu *ℤ entry g fix whole c) +ℤ sum_in_column g fix lines c)

-- and so for each column
abbrev pub EachColumnHolds : Game → Fix → ℤ → ℤ → List Line → Type 0
EachColumnHolds g fix rho mu lines = (c : Column) → IsColumn g c → ColumnHolds g fix rho mu lines c
