-- What an exchange does to the rows of a pool that hold a tableau in their first places.
use Rattle.std.specs.Prelude.{◌≡◌, ◌≢◌, ℕ, ◌<◌, List, [], ◌∷◌, ◌++◌, length, take, ℤ, pos, slice_index_or, None}
use Rattle.sg_num.specs.Operations.{first_wide}
use Rattle.sg_rows.specs.Rows.{IsLowest, combine_steps, combined_rows, place}

-- the first places of row k
abbrev pub front_of : ℕ → List (List ℤ) → ℕ → List ℤ
front_of height rows k = take height (slice_index_or rows k [])

-- each row but row r, combined with a pivot by the products q, fits
abbrev pub OthersFit : ℕ → List (List ℤ) → List ℤ → ℕ → List ℤ → Type 0
OthersFit height rows q r pivot = (k : ℕ) → k < length rows → k ≢ r → first_wide (combine_steps (place q r) (place q k) (front_of height rows k) (take height pivot)) ≡ None

-- each row but row r is so combined, without its common factor; row r stays, and each keeps its number of places
pub record OthersCombined (height : ℕ) (before now : List (List ℤ)) (q : List ℤ) (r : ℕ) (pivot : List ℤ) : Type 0 where
  pub many : length now ≡ length before
  pub wide : (k : ℕ) → k < length before → length (slice_index_or now k []) ≡ length (slice_index_or before k [])
  pub kept : slice_index_or now r [] ≡ slice_index_or before r []
  pub lowest : (k : ℕ) → k < length before → k ≢ r → IsLowest (combined_rows (place q r) (place q k) (front_of height before k) (take height pivot)) (front_of height now k)

-- the multipliers with their denominator, and the list of a row with 0, as they are combined
abbrev pub denominated : ℕ → List ℤ → ℤ → List ℤ
denominated height y rho = take height y ++ (rho ∷ [])

-- the rows and the multipliers exchanged at row r
pub record ListsExchanged (height : ℕ) (before now : List (List ℤ)) (y y' : List ℤ) (rho rho' : ℤ) (q : List ℤ) (r : ℕ) (gap : ℤ) : Type 0 where
  pub rows : OthersCombined height before now q r (slice_index_or before r [])
  pub y_wide : length y' ≡ length y
  pub multipliers : IsLowest (combined_rows (place q r) gap (denominated height y rho) (denominated height (slice_index_or before r []) (pos 0))) (denominated height y' rho')
