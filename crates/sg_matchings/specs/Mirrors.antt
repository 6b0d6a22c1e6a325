-- Tables that stand for counts: the counts, what rows and columns lack, and the counts with rows and columns exchanged. What is taken off such a table.
use Rattle.std.specs.Prelude.{◌≡◌, ◌≢◌, ℕ, ◌+◌, ◌<◌, ◌≤◌, cond, List, length, slice_index, ℤ, pos, ◌+ℤ◌, ◌-ℤ◌, ◌≤ℤ◌, int_lt}
use Rattle.sg_matchings.specs.declared.part.Part.{Part}
use Rattle.sg_linear.specs.Sums.{sum_below}
use Rattle.sg_matchings.specs.Sums.{occurrences}
use Rattle.sg_matchings.specs.Tables.{cell, IsPerfectMatching, IsSquare}
use Rattle.sg_matchings.specs.Decompositions.{cell_weight}

-- what stands to the right of the counts and below them is on the diagonals alone, and the corner is the counts with rows and columns exchanged
pub record IsMirrored (count width : ℕ) (rows : List (List ℤ)) : Type 0 where
  pub long : length rows ≡ count + width
  pub right : (i k : ℕ) → i < count → k < count → i ≢ k → cell rows i (width + k) ≡ pos 0
  pub below : (t j : ℕ) → t < width → j < width → t ≢ j → cell rows (count + t) j ≡ pos 0
  pub corner : (t k : ℕ) → t < width → k < count → cell rows (count + t) (width + k) ≡ cell rows k t

-- A matching as it is on the counts, and the same with rows and columns exchanged in the corner; where a row or a column of the counts is not matched, what it lacks is.
pub record IsMirror (count width : ℕ) (columns mirror : List ℕ) : Type 0 where
  pub long : length mirror ≡ count + width
  pub inside : (i : ℕ) → i < count → slice_index columns i < width → slice_index mirror i ≡ slice_index columns i
  pub free_row : (i : ℕ) → i < count → width ≤ slice_index columns i → slice_index mirror i ≡ width + i
  pub turned : (i : ℕ) → i < count → slice_index columns i < width → slice_index mirror (count + slice_index columns i) ≡ width + i
  pub free_column : (t : ℕ) → t < width → ((i : ℕ) → i < count → slice_index columns i ≢ t) → slice_index mirror (count + t) ≡ t

-- no two rows have one column of the counts
abbrev pub AreSeparate : ℕ → ℕ → List ℕ → Type 0
AreSeparate count width columns = (i k : ℕ) → i < k → k < count → slice_index columns i < width → slice_index columns i ≢ slice_index columns k

-- the columns of the counts' rows, and for each column of the counts its own row below them
pub record AreReset (count width : ℕ) (columns columns' : List ℕ) : Type 0 where
  pub long : length columns' ≡ length columns
  pub kept : (i : ℕ) → i < count → slice_index columns' i ≡ slice_index columns i
  pub own : (t : ℕ) → t < width → slice_index columns' (count + t) ≡ t

-- a pair on the counts stands in the corner the other way round, and no other does
pub record IsTurned (count width : ℕ) (columns : List ℕ) : Type 0 where
  pub there : (k t : ℕ) → k < count → t < width → slice_index columns k ≡ t → slice_index columns (count + t) ≡ width + k
  pub back : (k t : ℕ) → k < count → t < width → slice_index columns (count + t) ≡ width + k → slice_index columns k ≡ t

-- the first columns
pub record IsFront (count : ℕ) (columns front : List ℕ) : Type 0 where
  pub long : length front ≡ count
  pub same : (i : ℕ) → i < count → slice_index front i ≡ slice_index columns i

-- a column for each row, and no column twice
pub record IsOnce (size : ℕ) (columns : List ℕ) : Type 0 where
  pub each_row : length columns ≡ size
  pub within : (i : ℕ) → i < size → slice_index columns i < size
  pub once : (j : ℕ) → j < size → occurrences j columns ≤ℤ pos 1

-- the table less a part
pub record IsLess (rows : List (List ℤ)) (part : Part) (rows' : List (List ℤ)) : Type 0 where
  pub long : length rows' ≡ length rows
  pub square : IsSquare rows'
  pub cells : (i j : ℕ) → i < length rows → j < length rows → cell rows' i j ≡ cell rows i j -ℤ cell_weight i j part

-- the weight is the least number of the table on the part's matching
pub record IsLeastWeight (rows : List (List ℤ)) (columns : List ℕ) (weight : ℤ) : Type 0 where
  pub bound : (i : ℕ) → i < length rows → weight ≤ℤ cell rows i (slice_index columns i)
  pub reached : (i : ℕ) × ((i < length rows) × (cell rows i (slice_index columns i) ≡ weight))

-- one step: a perfect matching is taken off as often as can be
pub record IsMatchingStep (rows : List (List ℤ)) (part : Part) (rows' : List (List ℤ)) : Type 0 where
  pub matching : IsPerfectMatching rows part.columns
  pub least : IsLeastWeight rows part.columns part.weight
  pub less : IsLess rows part rows'

-- a part of the counts that is taken off the table, as the front of a matching that is its own mirror
pub record IsTaken (count width : ℕ) (rows : List (List ℤ)) (part : Part) (rows' : List (List ℤ)) : Type 0 where
  pub columns : List ℕ
  pub step : IsMatchingStep rows (record { columns = columns; weight = part.weight }) rows'
  pub turned : IsTurned count width columns
  pub front : IsFront count columns part.columns

-- how many counts, and how many numbers that rows and columns lack, are positive
abbrev pub positive_cells : ℕ → ℕ → List (List ℤ) → ℤ
positive_cells count width rows =
    (sum_below count (λ i. sum_below width (λ j. cond (int_lt (pos 0) (cell rows i j)) (pos 1) (pos 0)))
    +ℤ sum_below count (λ i. cond (int_lt (pos 0) (cell rows i (width + i))) (pos 1) (pos 0)))
    +ℤ sum_below width (λ t. cond (int_lt (pos 0) (cell rows (count + t) t)) (pos 1) (pos 0))
