-- Counts as a sum of matchings with weights, after Birkhoff and von Neumann: the counts' rows and columns have sums of at most one number.
use Rattle.std.specs.Prelude.{◌≡◌, ◌≢◌, ℕ, ◌<◌, cond, List, length, slice_index, ℤ, pos, ◌+ℤ◌, ◌≤ℤ◌, int_lt, All}
use Rattle.std.proofs.Common.{eqb}
use Rattle.sg_model.specs.Sums.{total}
use Rattle.sg_matchings.specs.declared.part.Part.{Part}
use Rattle.sg_linear.specs.Sums.{sum_below}
use Rattle.sg_matchings.specs.Tables.{cell}

-- the weight that a part puts on a cell
abbrev pub cell_weight : ℕ → ℕ → Part → ℤ
cell_weight i j part = cond (eqb (slice_index part.columns i) j) part.weight (pos 0)

-- For each row a column where the count is positive, or a number from `width` on where the row is not matched. No two rows have one column.
pub record IsMatching (counts : List (List ℤ)) (width : ℕ) (columns : List ℕ) : Type 0 where
  pub each_row : length columns ≡ length counts
  pub positive : (i : ℕ) → i < length counts → slice_index columns i < width → pos 1 ≤ℤ cell counts i (slice_index columns i)
  pub different : (i k : ℕ) → i < k → k < length counts → slice_index columns i < width → slice_index columns i ≢ slice_index columns k

-- how many counts are positive
abbrev pub positive_counts : List (List ℤ) → ℕ → ℤ
positive_counts counts width = sum_below (length counts) (λ i. sum_below width (λ j. cond (int_lt (pos 0) (cell counts i j)) (pos 1) (pos 0)))

-- Matchings of the counts with weights above 0, whose sum in each cell is the count there and in all is `most`.
-- There are no more of them than positive counts, rows and columns.
pub record IsDecomposition (counts : List (List ℤ)) (width : ℕ) (most : ℤ) (parts : List Part) : Type 0 where
  pub matchings : All (λ (part : Part). IsMatching counts width part.columns) parts
  pub positive : All (λ (part : Part). pos 1 ≤ℤ part.weight) parts
  pub each_cell : (i j : ℕ) → i < length counts → j < width → total (cell_weight i j) parts ≡ cell counts i j
  pub whole : total (λ (part : Part). part.weight) parts ≡ most
  pub few : pos (length parts) ≤ℤ (positive_counts counts width +ℤ pos (length counts) +ℤ pos width)
