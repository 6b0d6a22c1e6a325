-- A number in its one spelling is a numeral with no sign.
use Rattle.std.proofs.Common.{◌≡◌, ◌∙◌, ℕ, ◌<◌, ◌≤◌, ◌^◌, Bool, true, false, List, [], ◌∷◌, length, Option, Some, None, refl, sym, ap, arith, nat_lt, lt-ltb, inl, inr}
use Rattle.std.specs.Prelude.{◌&&◌, ◌⊎◌, not, nat_le, Result, Ok, Err, option_map, if◌then◌else◌}
use Rattle.std.specs.List.{list_all}
use Rattle.std.specs.Char.{digit_value}
use Rattle.std.specs.Str.Parse.{AllDigits, IsNumeral, ParsesUnsigned, digits_value, without_leading_plus}
use Rattle.std.proofs.lemmas.Bool.{leb-true, ltb-true, true≢false, cases_Bool}
use Rattle.sg_words.specs.Kinds.{is_decimal_digit, is_number, number_in, value_of_digits, has_leading_zero}

both : (a b : Bool) → (a && b) ≡ true → (a ≡ true) × (b ≡ true)
both true b e = (refl, e)
both false b e = absurd (true≢false (sym e))

digit_value-digit : (c : ℕ) → 48 ≤ c → c ≤ 57 → digit_value c < 10
digit_value-digit c low high = grind arith

pub digits : (text : List ℕ) → list_all is_decimal_digit text ≡ true → AllDigits 10 text
digits [] e = tt
digits (c ∷ text) e =
    let parts = both (is_decimal_digit c) (list_all is_decimal_digit text) e in
    let range = both (nat_le 48 c) (nat_le c 57) parts.0 in
    (digit_value-digit c (leb-true 48 c range.0) (leb-true c 57 range.1), digits text parts.1)

no_plus : (text : List ℕ) → list_all is_decimal_digit text ≡ true → without_leading_plus text ≡ text
no_plus [] e = refl
no_plus (c ∷ text) e =
    let parts = both (is_decimal_digit c) (list_all is_decimal_digit text) e in
    let range = both (nat_le 48 c) (nat_le c 57) parts.0 in
    let low : 48 ≤ c = leb-true 48 c range.0 in
    grind (arith, low)

-- what a number's one spelling is
pub record IsSpelled (text : List ℕ) : Type 0 where
  pub some : 1 ≤ length text
  pub digits : list_all is_decimal_digit text ≡ true
  pub plain : not (has_leading_zero text) ≡ true

pub number_parts : (text : List ℕ) → is_number text ≡ true → IsSpelled text
number_parts text e =
    let outer = both (nat_le 1 (length text)) (nat_le (length text) 20 && (list_all is_decimal_digit text && not (has_leading_zero text))) e in
    let middle = both (nat_le (length text) 20) (list_all is_decimal_digit text && not (has_leading_zero text)) outer.1 in
    let inner = both (list_all is_decimal_digit text) (not (has_leading_zero text)) middle.1 in
    record { some = leb-true 1 (length text) outer.0; digits = inner.0; plain = inner.1 }

-- what `parse` reads from it
pub parsed : {E : Type 0} (text : List ℕ) (r : Result ℕ E) (n : ℕ) → is_number text ≡ true → r ≡ Ok n → ParsesUnsigned 64 10 text r → Some n ≡ number_in text
parsed text (Err e) n number is h = absurd cc
parsed text (Ok m) n number is h =
    let same : m ≡ n = cc in
    let plain = no_plus text (number_parts text number).digits in
    let value : m ≡ value_of_digits text = h.1 ∙ ap (digits_value 10) plain in
    let low : value_of_digits text < 2 ^ 64 = rw plain at h.0.1 in
    sym (rw (number, lt-ltb (value_of_digits text) (2 ^ 64) low) (ap Some (sym value ∙ same)))

pub not_parsed : {E : Type 0} (text : List ℕ) (r : Result ℕ E) (e : E) → is_number text ≡ true → r ≡ Err e → ParsesUnsigned 64 10 text r → None ≡ number_in text
not_parsed text (Ok n) e number is h = absurd cc
not_parsed text (Err other) e number is h = go (cases_Bool (nat_lt (value_of_digits text) (2 ^ 64)))
  where
    parts : IsSpelled text
    parts = number_parts text number

    go : (nat_lt (value_of_digits text) (2 ^ 64) ≡ true) ⊎ (nat_lt (value_of_digits text) (2 ^ 64) ≡ false) → None ≡ number_in text
    go (inl low) = absurd (let plain = no_plus text parts.digits in h (rw plain ((parts.some, digits text parts.digits), ltb-true (value_of_digits text) (2 ^ 64) low)))
    go (inr high) = sym (rw (number, high) refl)

pub no_number : (text : List ℕ) → is_number text ≡ false → None ≡ number_in text
no_number text e = sym (rw e refl)
