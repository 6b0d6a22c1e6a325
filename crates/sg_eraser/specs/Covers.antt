-- A family of a node's coverage table: what it keeps.
use Rattle.std.specs.Prelude.{◌≡◌, ◌∷◌, List, map, ℤ, pos}
use Rattle.sg_model.specs.declared.kind.Kind.TheVariants.{Security}
use Rattle.sg_model.specs.Games.{Game}
use Rattle.sg_tree.specs.declared.fix.Fix.{Fix}
use Rattle.sg_bounds.specs.Coverage as table
use Rattle.sg_bounds.specs.Regions.{IsFix}
use Rattle.sg_eraser.specs.declared.sparse.RowEntry.{RowEntry}
use Rattle.sg_eraser.specs.declared.table.CoverRow.{CoverRow}
use Rattle.sg_eraser.specs.declared.table.CoverColumn.{CoverColumn}
use Rattle.sg_eraser.specs.Nonzero.{nonzero_from}
use Rattle.sg_eraser.specs.TableValues.{meant_column, meant_row}

-- all rows, from row 0
abbrev pub all_rows : Game → Fix → List table.Row
all_rows g fix = table.whole ∷ table.table_rows g fix

-- the entries of a column that are not 0, with their rows
abbrev pub column_entries : Game → Fix → table.Column → List RowEntry
column_entries g fix c = nonzero_from 0 (map (λ row. table.entry g fix row c) (all_rows g fix))

-- a node of a game in security form without a scale; the rows and columns of its table in order; and for each column its cost and its
-- entries that are not 0
pub record IsCoverTable (g : Game) (fix : Fix) (rows : List CoverRow) (columns : List CoverColumn) (costs : List ℤ) (entries : List (List RowEntry)) : Type 0 where
  pub security : g.kind ≡ Security
  pub unscaled : g.scale ≡ pos 0
  pub is_fix : IsFix g fix
  pub rows_are : map meant_row rows ≡ all_rows g fix
  pub columns_are : map meant_column columns ≡ table.columns g
  pub costs_are : costs ≡ map (table.column_cost g fix) (table.columns g)
  pub entries_are : entries ≡ map (column_entries g fix) (table.columns g)
