-- Programs that are given by a table: for each column a cost and an entry for each row.
use Rattle.std.specs.Prelude.{◌≡◌, ℕ, ◌<◌, ◌≤◌, ◌+◌, ◌^◌, List, ◌∷◌, [], length, map, replicate, slice_index_or, ℤ, pos, ◌≤ℤ◌, All}
use Rattle.std.specs.List.{range_with_len}
use Rattle.sg_num.specs.Exact.{IsAtMost}
use Rattle.sg_rows.specs.Rows.{place}
use Rattle.sg_lp.specs.Programs.{Program}
use Rattle.sg_lp.specs.declared.column.Column.{Column}

-- how many rows there are, and by column, from 0, its cost and its entries
pub record TableView : Type 0 where
  pub height : ℕ
  pub costs : List ℤ
  pub entries : List (List ℤ)

-- the column with number k, from 0
abbrev pub numbered_column : ℕ → Column
numbered_column k = record { len = 1; code = k ∷ replicate 31 0 }

-- and its number
abbrev pub column_number : Column → ℕ
column_number c = slice_index_or c.code 0 0

-- the program of a table
abbrev pub table_program : TableView → Program
table_program v = record {
  height = v.height;
  columns = map numbered_column (range_with_len 0 (length v.costs));
  entry = λ c j. place (slice_index_or v.entries (column_number c) []) j;
  cost = λ c. place v.costs (column_number c);
}

-- a cost and entries of a column that row 0 bounds
pub record IsTableColumn (height : ℕ) (cost : ℤ) (entries : List ℤ) : Type 0 where
  pub long : length entries ≡ height
  pub cost_within : IsAtMost (pos (2 ^ 56)) cost
  pub within : All (IsAtMost (pos (2 ^ 31 + 1))) entries
  pub bounded : pos 1 ≤ℤ place entries 0

-- what every table keeps
pub record IsBoundedTable (v : TableView) : Type 0 where
  pub some : 1 ≤ v.height
  pub few : v.height ≤ 1536
  pub few_columns : length v.costs ≤ 65535
  pub many : length v.entries ≡ length v.costs
  pub columns : (k : ℕ) → k < length v.costs → IsTableColumn v.height (place v.costs k) (slice_index_or v.entries k [])
