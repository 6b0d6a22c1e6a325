-- What the search for augmenting paths keeps: matchings of some columns, and what was reached from a column.
-- A matching is a column for each row; where a row has none yet, the number of rows stands in its place.
use Rattle.std.specs.Prelude.{◌≡◌, ℕ, suc, ◌<◌, ◌≤◌, ◌⊎◌, List, [], ◌∷◌, Bool, true, false, cond, length, slice_index, slice_index_or, ℤ, pos, ◌+ℤ◌, ◌≤ℤ◌}
use Rattle.std.proofs.Common.{eqb}
use Rattle.sg_matchings.specs.Sums.{occurrences}
use Rattle.sg_matchings.specs.Tables.{cell}

-- whether a row was reached
abbrev pub is_seen : List Bool → ℕ → Bool
is_seen seen i = slice_index_or seen i false

-- how many rows were not reached yet
abbrev pub unseen : List Bool → ℕ
unseen [] = 0
unseen (true ∷ seen) = unseen seen
unseen (false ∷ seen) = suc (unseen seen)

-- each row is free, or has a column at which the table is positive
pub record IsOnPositive (rows : List (List ℤ)) (matched : List ℕ) : Type 0 where
  pub each_row : length matched ≡ length rows
  pub each : (i : ℕ) → i < length rows → (slice_index matched i ≡ length rows) ⊎ ((slice_index matched i < length rows) × (pos 1 ≤ℤ cell rows i (slice_index matched i)))

-- the first columns are matched once, and the others at most once
pub record AreMatched (rows : List (List ℤ)) (matched : List ℕ) (columns : ℕ) : Type 0 where
  pub positive : IsOnPositive rows matched
  pub once : (j : ℕ) → j < columns → occurrences j matched ≡ pos 1
  pub at_most : (j : ℕ) → columns ≤ j → j < length rows → occurrences j matched ≤ℤ pos 1

-- rows that were reached stay so, and keep their columns
pub record Keeps (seen : List Bool) (matched : List ℕ) (seen' : List Bool) (matched' : List ℕ) : Type 0 where
  pub long : length seen' ≡ length seen
  pub stays_seen : (i : ℕ) → is_seen seen i ≡ true → is_seen seen' i ≡ true
  pub fewer : unseen seen' ≤ unseen seen
  pub stays_matched : (i : ℕ) → is_seen seen i ≡ true → slice_index matched' i ≡ slice_index matched i

-- one free row less, one more row with the column, and all other columns as often as before
abbrev pub Gains : ℕ → ℕ → List ℕ → List ℕ → Type 0
Gains free column matched matched' = (j : ℕ) → occurrences j matched' +ℤ cond (eqb free j) (pos 1) (pos 0) ≡ occurrences j matched +ℤ cond (eqb column j) (pos 1) (pos 0)

-- every row in which the column is positive was reached, of the rows before one
abbrev pub IsSearched : List (List ℤ) → ℕ → List Bool → ℕ → Type 0
IsSearched rows column seen before = (i : ℕ) → i < before → pos 1 ≤ℤ cell rows i column → is_seen seen i ≡ true

-- every row that was newly reached has a column, from which all was reached that can be
abbrev pub AreClosed : List (List ℤ) → List ℕ → List Bool → List Bool → Type 0
AreClosed rows matched seen seen' = (i : ℕ) → is_seen seen' i ≡ true → is_seen seen i ≡ false
    → (slice_index matched i < length rows) × IsSearched rows (slice_index matched i) seen' (length rows)

-- no augmenting path from the column: the matching is unchanged, and what was reached is closed
pub record IsBlocked (rows : List (List ℤ)) (column : ℕ) (matched : List ℕ) (seen : List Bool) (matched' : List ℕ) (seen' : List Bool) : Type 0 where
  pub same : matched' ≡ matched
  pub own : IsSearched rows column seen' (length rows)
  pub others : AreClosed rows matched seen seen'
