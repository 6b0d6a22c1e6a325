-- The fields of a line, and the numbers that they are.
use Rattle.std.specs.Prelude.{negsuc, ℕ, Bool, true, false, not, ◌&&◌, ◌==◌, nat_le, nat_lt, if◌then◌else◌, List, [], ◌∷◌, ◌++◌, length, Option, Some, None, Result, Ok, Err, ◌||◌, ℤ, pos, ◌-ℤ◌, bytes_eq, codes, position, slice_get, take, drop, ◌+◌}
use Rattle.std.specs.List.{slice_split, list_all}
use Rattle.std.specs.Option.{option_map}
use Rattle.std.specs.Int.Signed.{le_z}
use Rattle.sg_num.specs.Exact.{fits}
use Rattle.std.specs.Str.Parse.{digits_value}
use Rattle.sg_model.specs.Steps.{◌>>=◌}

-- what stands between the spaces of a line
abbrev pub fields : List ℕ → List (List ℕ)
fields line = slice_split (λ b. b == 32) line

abbrev pub is_digit : ℕ → Bool
is_digit b = nat_le 48 b && nat_le b 57

-- digits of which the first isn't 0, or just 0
abbrev pub is_natural : List ℕ → Bool
is_natural [] = false
is_natural (b ∷ []) = is_digit b
is_natural (b ∷ c ∷ bs) = (nat_lt 48 b && nat_le b 57) && list_all is_digit (c ∷ bs)

-- the one spelling of a whole number: a minus stands before those below 0
abbrev pub is_number_text : List ℕ → Bool
is_number_text [] = false
is_number_text (b ∷ bs) = if b == 45 then is_natural bs && not (bytes_eq bs (48 ∷ [])) else is_natural (b ∷ bs)

-- the number so spelled
abbrev pub value_of : List ℕ → ℤ
value_of [] = pos 0
value_of (b ∷ bs) = if b == 45 then pos 0 -ℤ pos (digits_value 10 bs) else pos (digits_value 10 (b ∷ bs))

-- the number that a field spells, where it spells one that fits
abbrev pub fitting : List ℕ → Option ℤ
fitting text = if is_number_text text && fits (value_of text) then Some (value_of text) else None

-- the list before the first such byte and the list after it
abbrev pub split_once : ℕ → List ℕ → Option (List ℕ × List ℕ)
split_once b bs = option_map (λ i. (take i bs, drop (i + 1) bs)) (position (λ x. x == b) bs)

-- ---- tests within a line; an error is a reason

-- a whole number from low to high
abbrev pub natural_of : ℕ → ℕ → Option ℤ → Result ℕ ℕ
natural_of low high None = Err 6
natural_of low high (Some (pos n)) = if nat_le low n && nat_le n high then Ok n else Err 6
natural_of low high (Some (negsuc n)) = Err 6

abbrev pub natural_next : ℕ → ℕ → List (List ℕ) → Result (ℕ × List (List ℕ)) ℕ
natural_next low high [] = Err 6
natural_next low high (f ∷ fs) = natural_of low high (fitting f) >>= λ n. Ok (n, fs)

-- a whole number from low to high, of either sign
abbrev pub whole_of : ℤ → ℤ → Option ℤ → Result ℤ ℕ
whole_of low high None = Err 6
whole_of low high (Some z) = if le_z low z && le_z z high then Ok z else Err 6

abbrev pub whole_next : ℤ → ℤ → List (List ℕ) → Result (ℤ × List (List ℕ)) ℕ
whole_next low high [] = Err 6
whole_next low high (f ∷ fs) = whole_of low high (fitting f) >>= λ z. Ok (z, fs)

-- the numbers of all fields, each from low to high, behind those before them
unfoldable pub numbers_of : ℕ → ℕ → List ℕ → List (List ℕ) → Result (List ℕ) ℕ
numbers_of low high done [] = Ok done
numbers_of low high done (f ∷ fs) = do
  n ← natural_of low high (fitting f)
  numbers_of low high (done ++ n ∷ []) fs

-- a fixed word, or # where a number stands: another word is reason 3, none is reason 4
abbrev pub word_at : List ℕ → Option (List ℕ) → Result (Unit {0}) ℕ
word_at word None = if bytes_eq word (codes "#") then Ok tt else Err 4
word_at word (Some field) = if bytes_eq word (codes "#") || bytes_eq word field then Ok tt else Err 3

unfoldable pub words_of : List (List ℕ) → List (List ℕ) → Result (Unit {0}) ℕ
words_of [] fs = Ok tt
words_of (w ∷ ws) fs = word_at w (slice_get fs 0) >>= λ _. words_of ws (drop 1 fs)

-- what isn't a fixed word is a number in the one spelling
abbrev pub spelled_at : Option (List ℕ) → List ℕ → Bool
spelled_at None field = is_number_text field
spelled_at (Some word) field = not (bytes_eq word (codes "#")) || is_number_text field

unfoldable pub spelled_of : List (List ℕ) → List (List ℕ) → Bool
spelled_of ws [] = true
spelled_of ws (f ∷ fs) = spelled_at (slice_get ws 0) f && spelled_of (drop 1 ws) fs

-- whether this word is the field at this place, from 0
abbrev pub is_word : List ℕ → Option (List ℕ) → Bool
is_word word None = false
is_word word (Some field) = bytes_eq word field

abbrev pub has_word : ℕ → List ℕ → List (List ℕ) → Bool
has_word at word fs = is_word word (slice_get fs at)

-- the fixed words, then the count of fields, then the spelling of the numbers
unfoldable pub shaped_if : Bool → List ℕ → List (List ℕ) → Result (Unit {0}) ℕ
shaped_if counted words fs = do
  fixed ← words_of (fields words) fs
  if counted then (if spelled_of (fields words) fs then Ok tt else Err 5) else Err 4

-- a count of fields from low to high
abbrev pub count_is : ℕ → ℕ → List (List ℕ) → Bool
count_is low high fs = nat_le low (length fs) && nat_le (length fs) high

abbrev pub shaped_as : List ℕ → ℕ → ℕ → List (List ℕ) → Result (Unit {0}) ℕ
shaped_as words low high fs = shaped_if (count_is low high fs) words fs

-- The field at this place says how many follow it. Where it is no number from 0 on, the line need only reach it.
abbrev pub count_follows : ℕ → ℕ → Option (List ℕ) → Bool
count_follows at count None = false
count_follows at count (Some field) = not (is_natural field) || count == at + 1 + digits_value 10 field

abbrev pub shaped_to : List ℕ → ℕ → List (List ℕ) → Result (Unit {0}) ℕ
shaped_to words at fs = shaped_if (count_follows at (length fs) (slice_get fs at)) words fs
