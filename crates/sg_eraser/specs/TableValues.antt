-- The rows and columns of the coverage table as values.
use Rattle.std.specs.Prelude.{◌≢◌, ◌+◌, ◌<◌, ◌≤◌, length, ℤ}
use Rattle.sg_model.specs.Games.{Game}
use Rattle.sg_game.specs.Counts.{IsGoalOf}
use Rattle.sg_tree.specs.declared.fix.Fix.{Fix}
use Rattle.sg_bounds.specs.Regions.{act_of}
use Rattle.sg_bounds.specs.Coverage as table
use Rattle.sg_eraser.specs.declared.table.CoverRow.{CoverRow}
use Rattle.sg_eraser.specs.declared.table.CoverRow.TheVariants as row
use Rattle.sg_eraser.specs.declared.table.CoverColumn.{CoverColumn}
use Rattle.sg_eraser.specs.declared.table.CoverColumn.TheVariants as column

-- the row of the table that a value means
abbrev pub meant_row : CoverRow → table.Row
meant_row row.Whole = table.whole
meant_row (row.Spends r) = table.spends r
meant_row (row.Held t) = table.held t
meant_row (row.Within t) = table.within t
meant_row (row.Gains l other) = table.gains l other

-- the column of the table that a value means
abbrev pub meant_column : CoverColumn → table.Column
meant_column column.Always = table.always
meant_column (column.Chooses r j) = table.chooses r j
meant_column (column.Covering t) = table.covering t

-- what a row's numbers are: of one that compares actions, a fixed type and an action of it other than the fixed one
abbrev pub IsCoverRow : Game → Fix → CoverRow → Type 0
IsCoverRow g fix row.Whole = Unit {0}
IsCoverRow g fix (row.Spends r) = Unit {0}
IsCoverRow g fix (row.Held t) = Unit {0}
IsCoverRow g fix (row.Within t) = Unit {0}
IsCoverRow g fix (row.Gains l other) = (fix.first ≤ l) × (l < fix.first + length fix.acts) × IsGoalOf g other × (other ≢ act_of fix l)

-- a column is one of the table
abbrev pub IsCoverColumn : Game → CoverColumn → Type 0
IsCoverColumn g c = table.IsColumn g (meant_column c)

-- the entry of a row in a column
abbrev pub meant_entry : Game → Fix → CoverRow → CoverColumn → ℤ
meant_entry g fix row c = table.entry g fix (meant_row row) (meant_column c)
