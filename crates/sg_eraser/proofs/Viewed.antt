-- A family by its view: the game and the node.
use Rattle.std.proofs.Common.{◌≡◌, ◌∙◌, ℕ, ◌-◌, ◌<◌, List, sym, ap, subst, arith, get_or}
use Rattle.std.specs.Prelude.{ℤ}
use Rattle.std.specs.List.{Contains}
use Rattle.sg_model.specs.Limits.{IsGame}
use Rattle.sg_rows.specs.Rows.{place}
use Rattle.sg_lp.specs.declared.column.Column.{Column}
use Rattle.sg_programs.specs.CoverPrograms.{number_in_table, cover_program}
use Rattle.sg_programs.specs.Nodes.{NodeOf}
use Rattle.sg_eraser.specs.declared.sparse.RowEntry.{RowEntry}
use Rattle.sg_eraser.specs.declared.table.CoverRow.{CoverRow}
use Rattle.sg_eraser.specs.declared.table.CoverColumn.{CoverColumn}
use Rattle.sg_eraser.specs.Covers.{IsCoverTable}
use Rattle.sg_eraser.specs.TableValues.{IsCoverColumn, IsCoverRow, meant_entry}
use Rattle.sg_eraser.proofs.Tabled.{column-room, columns-known, cost-at, entry-at, height-is, rows-known}

module _ (v inner : NodeOf) (rows : List CoverRow) (columns : List CoverColumn) (costs : List ℤ) (entries : List (List RowEntry)) where
  pub coverage-by : inner ≡ v → IsCoverTable inner.game inner.fix rows columns costs entries → IsCoverTable v.game v.fix rows columns costs entries
  coverage-by e is = subst (λ (z : NodeOf). IsCoverTable z.game z.fix rows columns costs entries) e is

  pub listed-by : inner ≡ v → (col : Column) → Contains (cover_program v.game v.fix).columns col → Contains (cover_program inner.game inner.fix).columns col
  listed-by e col h = subst (λ (z : NodeOf). Contains (cover_program z.game z.fix).columns col) (sym e) h

  -- the cost of a column, read in a slice
  pub cost-by : (cs : List ℤ) → inner ≡ v → IsCoverTable inner.game inner.fix rows columns costs entries → cs ≡ costs → (col : Column) → Contains (cover_program v.game v.fix).columns col
      → place cs (number_in_table col - 1) ≡ (cover_program v.game v.fix).cost col
  cost-by cs e is ec col h = ap (λ (zs : List ℤ). place zs (number_in_table col - 1)) ec ∙ cost-at v.game v.fix rows columns costs entries (coverage-by e is) col h

  -- a row and a column, read in slices
  pub row-by : (rs : List CoverRow) → inner ≡ v → IsCoverTable inner.game inner.fix rows columns costs entries → rs ≡ rows → (j : ℕ) (d : CoverRow) → j < (cover_program v.game v.fix).height → IsCoverRow inner.game inner.fix (get_or rs j d)
  row-by rs e is er j d below =
      subst (λ (zs : List CoverRow). IsCoverRow inner.game inner.fix (get_or zs j d)) (sym er)
      (rows-known inner.game is.security inner.fix is.is_fix rows is.rows_are j d (omega (arith, below, height-is v.game v.fix rows columns costs entries (coverage-by e is))))

  pub column-by : (cs : List CoverColumn) → inner ≡ v → IsCoverTable inner.game inner.fix rows columns costs entries → cs ≡ columns → (col : Column) (d : CoverColumn) → Contains (cover_program v.game v.fix).columns col
      → IsCoverColumn inner.game (get_or cs (number_in_table col - 1) d)
  column-by cs e is ec col d h =
      subst (λ (zs : List CoverColumn). IsCoverColumn inner.game (get_or zs (number_in_table col - 1) d)) (sym ec)
      (columns-known inner.game columns is.columns_are (number_in_table col - 1) d (column-room inner.game inner.fix rows columns costs entries is col (listed-by e col h)))

  pub entry-by : (rs : List CoverRow) (cs : List CoverColumn) (z : ℤ) → inner ≡ v → IsCoverTable inner.game inner.fix rows columns costs entries → rs ≡ rows → cs ≡ columns → (col : Column) (j : ℕ) (d : CoverColumn) (f : CoverRow)
      → Contains (cover_program v.game v.fix).columns col → j < (cover_program v.game v.fix).height → z ≡ meant_entry inner.game inner.fix (get_or rs j f) (get_or cs (number_in_table col - 1) d) → z ≡ (cover_program v.game v.fix).entry col j
  entry-by rs cs z e is er ec col j d f h below q =
      q
      ∙ ap (λ (zs : List CoverRow). meant_entry inner.game inner.fix (get_or zs j f) (get_or cs (number_in_table col - 1) d)) er
      ∙ ap (λ (zs : List CoverColumn). meant_entry inner.game inner.fix (get_or rows j f) (get_or zs (number_in_table col - 1) d)) ec
      ∙ ap (λ (n : NodeOf). meant_entry n.game n.fix (get_or rows j f) (get_or columns (number_in_table col - 1) d)) e
      ∙ entry-at v.game v.fix rows columns costs entries (coverage-by e is) col j d f h below

pub game-by : (v inner : NodeOf) → inner ≡ v → IsGame inner.game → IsGame v.game
game-by v inner e is = subst (λ (z : NodeOf). IsGame z.game) e is
