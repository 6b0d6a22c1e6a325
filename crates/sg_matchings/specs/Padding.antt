-- Tables of counts whose sums are at most a number, and the square table with this line sum that they stand in.
use Rattle.std.specs.Prelude.{◌≡◌, ℕ, ◌+◌, ◌<◌, ◌≤◌, cond, List, [], length, slice_index, slice_index_or, ℤ, pos, ◌-ℤ◌, ◌≤ℤ◌}
use Rattle.std.proofs.Common.{eqb}
use Rattle.sg_linear.specs.Sums.{sum_below}
use Rattle.sg_matchings.specs.Tables.{cell, IsSquare, HasLineSum, IsPerfectMatching}

-- the sum of a row, and of a column
abbrev pub row_total : List (List ℤ) → ℕ → ℕ → ℤ
row_total counts width i = sum_below width (λ j. cell counts i j)

abbrev pub column_total : List (List ℤ) → ℕ → ℤ
column_total counts j = sum_below (length counts) (λ i. cell counts i j)

-- counts from 0, as many columns in each row, and no row and no column has a sum above a number
pub record AreWithin (counts : List (List ℤ)) (width : ℕ) (most : ℤ) : Type 0 where
  pub wide : (i : ℕ) → i < length counts → length (slice_index_or counts i []) ≡ width
  pub nonnegative : (i j : ℕ) → i < length counts → j < width → pos 0 ≤ℤ cell counts i j
  pub rows_within : (i : ℕ) → i < length counts → row_total counts width i ≤ℤ most
  pub columns_within : (j : ℕ) → j < width → column_total counts j ≤ℤ most

-- The counts, what their rows lack to the right, what their columns lack below, and in the corner the counts with rows and columns exchanged.
pub record IsPadded (counts : List (List ℤ)) (width : ℕ) (most : ℤ) (rows : List (List ℤ)) : Type 0 where
  pub long : length rows ≡ length counts + width
  pub square : IsSquare rows
  pub inside : (i j : ℕ) → i < length counts → j < width → cell rows i j ≡ cell counts i j
  pub right : (i k : ℕ) → i < length counts → k < length counts → cell rows i (width + k) ≡ cond (eqb i k) (most -ℤ row_total counts width i) (pos 0)
  pub below : (t j : ℕ) → t < width → j < width → cell rows (length counts + t) j ≡ cond (eqb t j) (most -ℤ column_total counts t) (pos 0)
  pub corner : (t k : ℕ) → t < width → k < length counts → cell rows (length counts + t) (width + k) ≡ cell counts k t

-- Padded counts have the line sum. So a perfect matching of them exists, and of its cells those inside are in every row and in every column
-- that lacks nothing.
abbrev pub PaddedHasLineSum : Type 0
PaddedHasLineSum = (counts : List (List ℤ)) (width : ℕ) (most : ℤ) (rows : List (List ℤ)) → 1 ≤ length counts + width → AreWithin counts width most
    → IsPadded counts width most rows → HasLineSum rows most

-- a number of the padded table, told by its place
pub record IsPaddedCell (counts : List (List ℤ)) (width : ℕ) (most : ℤ) (i j : ℕ) (value : ℤ) : Type 0 where
  pub inside : i < length counts → j < width → value ≡ cell counts i j
  pub right : (k : ℕ) → i < length counts → j ≡ width + k → value ≡ cond (eqb i k) (most -ℤ row_total counts width i) (pos 0)
  pub below : (t : ℕ) → j < width → i ≡ length counts + t → value ≡ cond (eqb t j) (most -ℤ column_total counts t) (pos 0)
  pub corner : (t k : ℕ) → i ≡ length counts + t → j ≡ width + k → value ≡ cell counts k t

-- a row of the padded table
pub record IsPaddedRow (counts : List (List ℤ)) (width : ℕ) (most : ℤ) (i : ℕ) (row : List ℤ) : Type 0 where
  pub long : length row ≡ length counts + width
  pub each : (j : ℕ) → j < length row → IsPaddedCell counts width most i j (slice_index_or row j (pos 0))

-- A perfect matching of padded counts, seen on the counts alone, is in every row and in every column that lacks nothing: no row that
-- lacks nothing is matched to the right of the counts, and no column that lacks nothing is matched below them.
abbrev pub FullAreMatched : Type 0
FullAreMatched = (counts : List (List ℤ)) (width : ℕ) (most : ℤ) (rows : List (List ℤ)) (columns : List ℕ) → IsPadded counts width most rows → IsPerfectMatching rows columns
    → ((i : ℕ) → i < length counts → row_total counts width i ≡ most → slice_index columns i < width)
    × ((j : ℕ) → j < width → column_total counts j ≡ most → (i : ℕ) × ((i < length counts) × (slice_index columns i ≡ j)))
