-- The rows of the coverage table as values.
use Rattle.std.specs.Prelude.{◌≡◌, ◌≢◌, ℕ, ◌+◌, ◌<◌, ◌≤◌, length}
use Rattle.sg_model.specs.Sums.{nth}
use Rattle.sg_model.specs.Games.{Game}
use Rattle.sg_game.specs.Counts.{IsGoalOf, IsResourceOf, IsTypeOf}
use Rattle.sg_tree.specs.declared.fix.Fix.{Fix}
use Rattle.sg_bounds.specs.Regions.{act_of}
use Rattle.sg_bounds.specs.Coverage.{Row, gains, held, spends, table_rows, whole, within}
use Rattle.sg_cover_fact.specs.declared.row.TableRow.{TableRow}
use Rattle.sg_cover_fact.specs.declared.row.TableRow.TheVariants.{Gains, Held, Spends, Within}

-- the row of the table that a value names
abbrev pub named_row : TableRow → Row
named_row (Spends r) = spends r
named_row (Held t) = held t
named_row (Within t) = within t
named_row (Gains l other) = gains l other

-- what its numbers are: a resource, a target, or a fixed type with another action than its own
abbrev pub IsTableRow : Game → Fix → TableRow → Type 0
IsTableRow g fix (Spends r) = IsResourceOf g r
IsTableRow g fix (Held t) = IsGoalOf g t
IsTableRow g fix (Within t) = IsGoalOf g t
IsTableRow g fix (Gains l other) = (fix.first ≤ l) × (l < fix.first + length fix.acts) × IsTypeOf g l × IsGoalOf g other × (other ≢ act_of fix l)

-- the n-th row of the table, from 1
pub record IsRowAt (g : Game) (fix : Fix) (n : ℕ) (row : TableRow) : Type 0 where
  pub names : named_row row ≡ nth (table_rows g fix) n whole
  pub known : IsTableRow g fix row
