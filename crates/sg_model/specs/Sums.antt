-- Sums, greatest and least values of whole numbers over lists, and places counted from 1.
use Rattle.std.specs.Prelude.{ℕ, zero, suc, ◌+◌, List, [], ◌∷◌, ℤ, pos, negsuc, ◌+ℤ◌, slice_index_or}
use Rattle.std.specs.List.{fold}
use Rattle.std.specs.Int.{int_max, int_min}

-- the sum of f over a list
abbrev pub total : {X : Type 0} → (X → ℤ) → List X → ℤ
total f [] = pos 0
total f (x ∷ xs) = f x +ℤ total f xs

-- the greatest of a list, and 0 of none
abbrev pub greatest : List ℤ → ℤ
greatest [] = pos 0
greatest (x ∷ xs) = fold int_max x xs

-- the least of a list, and 0 of none
abbrev pub least : List ℤ → ℤ
least [] = pos 0
least (x ∷ xs) = fold int_min x xs

-- n numbers in a row, from a
abbrev pub numbers_from : ℕ → ℕ → List ℕ
numbers_from a zero = []
numbers_from a (suc n) = a ∷ numbers_from (a + 1) n

-- 1 to n
abbrev pub numbers : ℕ → List ℕ
numbers n = numbers_from 1 n

-- the item at place n, counted from 1, and d where there is none
abbrev pub nth : {X : Type 0} → List X → ℕ → X → X
nth xs zero d = d
nth xs (suc k) d = slice_index_or xs k d

-- a number where it is above 0, and else 0
abbrev pub positive_part : ℤ → ℕ
positive_part (pos n) = n
positive_part (negsuc n) = 0
