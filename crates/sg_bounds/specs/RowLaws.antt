-- The rows of a node's programs by their numbers, and the columns of the coverage table.
use Rattle.std.specs.Prelude.{◌≡◌, ◌≢◌, ℕ, ◌+◌, ◌-◌, ◌*◌, ◌<◌, ◌≤◌, if◌then◌else◌, List, length, nat_lt, slice_index, All, AllPairs, Contains}
use Rattle.sg_model.specs.declared.kind.Kind.TheVariants.{Security}
use Rattle.sg_model.specs.Sums.{nth}
use Rattle.sg_model.specs.Games.{Game, resource_count}
use Rattle.sg_tree.specs.declared.fix.Fix.{Fix}
use Rattle.sg_bounds.specs.Regions.{IsFix}
use Rattle.sg_bounds.specs.PlayRows.{comparisons, play_row_count}
use Rattle.sg_bounds.specs.Coverage.{Column, IsColumn, columns, gains, held, table_rows, spends, whole, within}

-- how many rows there are from row 1: the resources, twice the targets, and for each fixed type its other actions
abbrev pub table_row_count : Game → Fix → ℕ
table_row_count g fix = resource_count g + length g.goals + length g.goals + length fix.acts * (length g.goals - 1)

-- the j-th of the numbers other than a
abbrev pub other_than : ℕ → ℕ → ℕ
other_than a j = if nat_lt j a then j else j + 1

-- which row each number names
pub record HasRows (g : Game) (fix : Fix) : Type 0 where
  pub count : length (table_rows g fix) ≡ table_row_count g fix
  pub resources : (n : ℕ) → 1 ≤ n → n ≤ resource_count g → nth (table_rows g fix) n whole ≡ spends n
  pub targets : (t : ℕ) → 1 ≤ t → t ≤ length g.goals → nth (table_rows g fix) (resource_count g + t) whole ≡ held t
  pub targets_again : (t : ℕ) → 1 ≤ t → t ≤ length g.goals → nth (table_rows g fix) (resource_count g + length g.goals + t) whole ≡ within t
  pub actions : (i j : ℕ) → i < length fix.acts → 1 ≤ j → j ≤ length g.goals - 1
      → nth (table_rows g fix) (resource_count g + length g.goals + length g.goals + (i * (length g.goals - 1) + j)) whole
      ≡ gains (fix.first + i) (other_than (slice_index fix.acts i) j)

-- in a security game the rows stand in this order
abbrev pub RowsInOrder : Type 0
RowsInOrder = (g : Game) → g.kind ≡ Security → (fix : Fix) → IsFix g fix → HasRows g fix

-- the rows of a program of plays are counted by each fixed type's own actions
abbrev pub PlayRowsAreCounted : Type 0
PlayRowsAreCounted = (g : Game) (fix : Fix) → IsFix g fix → 1 + length (comparisons g fix) ≡ play_row_count g fix

-- columns alone, no two of them the same, and every column among them
pub record AreAllColumns (g : Game) (columns : List Column) : Type 0 where
  pub known : All (IsColumn g) columns
  pub distinct : AllPairs (λ x y. x ≢ y) columns
  pub complete : (c : Column) → IsColumn g c → Contains columns c

-- the list of columns holds each of them once, and nothing else
abbrev pub ColumnsAreAll : Type 0
ColumnsAreAll = (g : Game) → AreAllColumns g (columns g)
