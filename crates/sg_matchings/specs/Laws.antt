-- Laws about tables with a line sum, and tables worked out by hand.
use Rattle.std.specs.Prelude.{◌≡◌, ℕ, ◌<◌, List, [], ◌∷◌, length, Bool, false, ℤ, pos, ◌≤ℤ◌}
use Rattle.sg_matchings.specs.Sums.{occurrences}
use Rattle.sg_matchings.specs.Tables.{HasLineSum, IsPerfectMatching}
use Rattle.sg_matchings.specs.Matchings.{AreMatched, IsBlocked, is_seen}
use Rattle.sg_matchings.specs.Decompositions.{IsDecomposition}

-- A search from a further column always finds an augmenting path: what it reached without one would be columns, one more than
-- rows, that are positive in these rows alone, so that their sums would be more than those of the rows.
abbrev pub PathsAreFound : Type 0
PathsAreFound = (rows : List (List ℤ)) (sum : ℤ) → pos 1 ≤ℤ sum → HasLineSum rows sum
    → (matched : List ℕ) (column : ℕ) → column < length rows → AreMatched rows matched column → occurrences column matched ≡ pos 0
    → (seen : List Bool) → ((i : ℕ) → is_seen seen i ≡ false) → (matched' : List ℕ) (seen' : List Bool) → IsBlocked rows column matched seen matched' seen' → ⊥

-- The rows 1 2 and 2 1 have the line sum 3, and both perfect matchings. The rows 0 3 and 3 0 have only the one across, and the rows 1 2 and 1 2 have no line sum.
-- The counts 1 1 and 0 1 in two rows, of which no row and no column has more than 2, are the matching of the first row with the second column, once,
-- and that of the first row with the first column and of the second with the second, once.
pub record DecompositionsAreWorked : Type 0 where
  pub table : HasLineSum ((pos 1 ∷ pos 2 ∷ []) ∷ (pos 2 ∷ pos 1 ∷ []) ∷ []) (pos 3)
  pub straight : IsPerfectMatching ((pos 1 ∷ pos 2 ∷ []) ∷ (pos 2 ∷ pos 1 ∷ []) ∷ []) (0 ∷ 1 ∷ [])
  pub crossed : IsPerfectMatching ((pos 1 ∷ pos 2 ∷ []) ∷ (pos 2 ∷ pos 1 ∷ []) ∷ []) (1 ∷ 0 ∷ [])
  pub no_straight : IsPerfectMatching ((pos 0 ∷ pos 3 ∷ []) ∷ (pos 3 ∷ pos 0 ∷ []) ∷ []) (0 ∷ 1 ∷ []) → ⊥
  pub not_twice : IsPerfectMatching ((pos 1 ∷ pos 2 ∷ []) ∷ (pos 2 ∷ pos 1 ∷ []) ∷ []) (1 ∷ 1 ∷ []) → ⊥
  pub no_table : (sum : ℤ) → HasLineSum ((pos 1 ∷ pos 2 ∷ []) ∷ (pos 1 ∷ pos 2 ∷ []) ∷ []) sum → ⊥
  pub parts : IsDecomposition ((pos 1 ∷ pos 1 ∷ []) ∷ (pos 0 ∷ pos 1 ∷ []) ∷ []) 2 (pos 2)
      (record { columns = 1 ∷ 2 ∷ []; weight = pos 1 } ∷ record { columns = 0 ∷ 1 ∷ []; weight = pos 1 } ∷ [])
