-- The program of a node over the coverage table.
-- It asks for the greatest cost of a combination of the table's columns, not below 0, that is at most 1 in row 0 and at most 0 in each
-- other row. The program's columns are the numbers of the table's.
use Rattle.std.specs.Prelude.{ℕ, ◌+◌, if◌then◌else◌, List, [], ◌∷◌, map, length, drop, slice_index, ℤ, pos, int_lt}
use Rattle.sg_model.specs.Sums.{nth, numbers}
use Rattle.sg_model.specs.Games.{Game}
use Rattle.sg_tree.specs.declared.fact.Fact.{Fact}
use Rattle.sg_tree.specs.declared.fact.Fact.TheVariants.{Cover}
use Rattle.sg_tree.specs.declared.fact.Line.{Line}
use Rattle.sg_tree.specs.declared.fix.Fix.{Fix}
use Rattle.sg_bounds.specs.Coverage as table
use Rattle.sg_rows.specs.Rows.{place}
use Rattle.sg_lp.specs.declared.column.Column.{Column}
use Rattle.sg_lp.specs.Programs.{Program}
use Rattle.sg_programs.specs.Plays.{column_of}

-- the column of this number, from 1
abbrev pub column_numbered : ℕ → Column
column_numbered n = column_of (n ∷ [])

-- the number of a column
abbrev pub number_in_table : Column → ℕ
number_in_table c = slice_index c.code 0

-- the column of the table that a column of the program stands for
abbrev pub table_column : Game → Column → table.Column
table_column g c = nth (table.columns g) (number_in_table c) table.always

-- the row of the table at a place, from row 0
abbrev pub table_row : Game → Fix → ℕ → table.Row
table_row g fix j = nth (table.table_rows g fix) j table.whole

-- the program: row 0 and the rows of the table, a column for each of the table's, in order
abbrev pub cover_program : Game → Fix → Program
cover_program g fix = record {
  height = length (table.table_rows g fix) + 1;
  columns = map column_numbered (numbers (length (table.columns g)));
  entry = λ c j. table.entry g fix (table_row g fix j) (table_column g c);
  cost = λ c. table.column_cost g fix (table_column g c);
}

-- the multipliers of the rows from row n on, but for those that are 0
abbrev pub lines_from : ℕ → List ℤ → List Line
lines_from n [] = []
lines_from n (v ∷ vs) = if int_lt (pos 0) v then record { row = n; v = v } ∷ lines_from (n + 1) vs else lines_from (n + 1) vs

-- the fact of the multipliers y over rho: that of row 0 bounds the whole, the others are lines, by rising row
abbrev pub cover_fact : List ℤ → ℤ → Fact
cover_fact y rho = Cover rho (place y 0) (lines_from 1 (drop 1 y))
