-- Square tables of whole numbers, and perfect matchings of rows and columns on their positive cells.
use Rattle.std.specs.Prelude.{◌≡◌, ◌≢◌, ℕ, ◌<◌, ◌≤◌, List, [], length, slice_index, slice_index_or, ℤ, pos, ◌≤ℤ◌}
use Rattle.sg_linear.specs.Sums.{sum_below}
use Rattle.sg_matchings.specs.Sums.{occurrences}

-- the number in a row and a column, counted from 0, and 0 outside of the table
abbrev pub cell : List (List ℤ) → ℕ → ℕ → ℤ
cell rows i j = slice_index_or (slice_index_or rows i []) j (pos 0)

-- each row has as many numbers as there are rows
abbrev pub IsSquare : List (List ℤ) → Type 0
IsSquare rows = (i : ℕ) → i < length rows → length (slice_index_or rows i []) ≡ length rows

abbrev pub row_sum : List (List ℤ) → ℕ → ℤ
row_sum rows i = sum_below (length rows) (λ j. cell rows i j)

abbrev pub column_sum : List (List ℤ) → ℕ → ℤ
column_sum rows j = sum_below (length rows) (λ i. cell rows i j)

-- A table of numbers from 0, with at least one row, whose rows and columns all have one sum: so many times a doubly stochastic matrix.
pub record HasLineSum (rows : List (List ℤ)) (sum : ℤ) : Type 0 where
  pub some_row : 1 ≤ length rows
  pub square : IsSquare rows
  pub nonnegative : (i j : ℕ) → i < length rows → j < length rows → pos 0 ≤ℤ cell rows i j
  pub rows_sum : (i : ℕ) → i < length rows → row_sum rows i ≡ sum
  pub columns_sum : (j : ℕ) → j < length rows → column_sum rows j ≡ sum

-- it has a line sum above 0
abbrev pub HasPositiveLineSum : List (List ℤ) → Type 0
HasPositiveLineSum rows = (sum : ℤ) × ((pos 1 ≤ℤ sum) × HasLineSum rows sum)

-- A column for each row, all different, so that each column is there once, and the table is positive at each of these cells.
pub record IsPerfectMatching (rows : List (List ℤ)) (columns : List ℕ) : Type 0 where
  pub each_row : length columns ≡ length rows
  pub within : (i : ℕ) → i < length rows → slice_index columns i < length rows
  pub positive : (i : ℕ) → i < length rows → pos 1 ≤ℤ cell rows i (slice_index columns i)
  pub different : (i k : ℕ) → i < k → k < length rows → slice_index columns i ≢ slice_index columns k
  pub each_column : (j : ℕ) → j < length rows → occurrences j columns ≡ pos 1
