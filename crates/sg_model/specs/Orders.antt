-- The order of lists: of two lists the one with the lesser item at their first difference comes first, and a list comes before its extensions.
use Rattle.std.specs.Prelude.{◌≡◌, ◌↔◌, ◌⊎◌, ℕ, ◌<◌, Bool, true, List, [], ◌∷◌}
use Rattle.std.specs.Ordering.{nat_cmp, is_lt}
use Rattle.std.specs.Cmp.Lexicographic.{slice_cmp}

-- one list comes before another
abbrev pub IsBefore : List ℕ → List ℕ → Type 0
IsBefore xs [] = ⊥
IsBefore [] (y ∷ ys) = Unit {0}
IsBefore (x ∷ xs) (y ∷ ys) = (x < y) ⊎ ((x ≡ y) × IsBefore xs ys)

-- whether it does, by the comparison of lists
abbrev pub is_before : List ℕ → List ℕ → Bool
is_before before after = is_lt (slice_cmp nat_cmp before after)

-- the test is the order
abbrev pub TestIsOrder : Type 0
TestIsOrder = (before after : List ℕ) → (is_before before after ≡ true) ↔ IsBefore before after
