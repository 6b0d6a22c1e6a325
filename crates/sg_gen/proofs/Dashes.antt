-- Numbers in decimal digits before a dash.
use Rattle.std.proofs.Common.{◌≡◌, ◌∙◌, ℕ, ◌+◌, ◌%◌, ◌<◌, ◌≤◌, ◌^◌, Bool, true, false, List, [], ◌∷◌, ◌++◌, drop, get_or, length, append_assoc, sym, ap, refl, arith, inl, inr}
use Rattle.std.specs.Prelude.{◌&&◌, ◌==◌, decimal, nat_le, not}
use Rattle.std.specs.List.{after_first, before_first, list_all, position_or_len}
use Rattle.std.specs.Str.Parse.{AllDigits, digits_value}
use Rattle.std.proofs.lemmas.Bool.{cases_lt, le-leb, leb-true, lt-ltb}
use Rattle.std.proofs.lemmas.Bool.Decides.{nat_tests}
use Rattle.std.proofs.lemmas.Fmt.{decimal-digits_value, decimal_by_steps, decimal_injective, decimal_is_IsNumeral, decimal_digit, decimal_nonempty, first_decimal, length-decimal-le}
use Rattle.std.proofs.lemmas.List.{drop_at, length-append, take_at}
use Rattle.std.proofs.lemmas.Str.Parse.{IsNumeralModel, digit_from_value}
use Rattle.sg_words.specs.Kinds.{has_leading_zero, is_decimal_digit, is_number, is_of, number, number_read, value_of_digits}
use Rattle.sg_words.proofs.Digits.{digits, number_parts}

numerals : IsNumeralModel (AllDigits 10) (digits_value 10)
numerals = record { to = λ ds d. d; from = λ ds d. d; same = λ ds d. refl }

-- ---- the first dash

place : (front rest : List ℕ) → AllDigits 10 front → position_or_len (λ b. b == 45) (front ++ 45 ∷ rest) ≡ length front
place [] rest d = refl
place (c ∷ cs) rest d =
    let range = digit_from_value c d.0 in
    let e : (c == 45) ≡ false = grind (arith, nat_tests, range) in
    rw e (omega (arith, place cs rest d.1))

pub before : (front rest : List ℕ) → AllDigits 10 front → before_first (λ b. b == 45) (front ++ 45 ∷ rest) ≡ front
before front rest d = rw (place front rest d) (take_at front (45 ∷ rest) (length front) refl)

pub behind : (front rest : List ℕ) → AllDigits 10 front → after_first (λ b. b == 45) (front ++ 45 ∷ rest) ≡ rest
behind front rest d =
    let long : length (front ++ 45 ∷ []) ≡ length front + 1 = length-append front (45 ∷ []) in
    rw (place front rest d) (ap (drop (length front + 1)) (sym (append_assoc front (45 ∷ []) rest)) ∙ drop_at (front ++ 45 ∷ []) rest (length front + 1) long)

pub has_dash : (front rest : List ℕ) → AllDigits 10 front → position_or_len (λ b. b == 45) (front ++ 45 ∷ rest) ≡ length (front ++ 45 ∷ rest) → ⊥
has_dash front rest d e = absurd (omega (arith, e, place front rest d, length-append front (45 ∷ rest)))

pub digits-of : (n : ℕ) → n < 2 ^ 64 → AllDigits 10 (decimal n)
digits-of n lt = (decimal_is_IsNumeral n lt).0.1

-- a number before a dash, and what is behind it, are found again
pub apart : (m n : ℕ) (a b : List ℕ) → m < 2 ^ 64 → n < 2 ^ 64 → decimal m ++ 45 ∷ a ≡ decimal n ++ 45 ∷ b → (m ≡ n) × (a ≡ b)
apart m n a b small_m small_n e =
    let first = sym (before (decimal m) a (digits-of m small_m)) ∙ ap (before_first (λ b. b == 45)) e ∙ before (decimal n) b (digits-of n small_n) in
    let last = sym (behind (decimal m) a (digits-of m small_m)) ∙ ap (after_first (λ b. b == 45)) e ∙ behind (decimal n) b (digits-of n small_n) in
    (decimal_injective m n small_m small_n first, last)

-- ---- the one spelling

digit-ok : (d : ℕ) → d < 10 → is_decimal_digit (48 + d) ≡ true
digit-ok d lt = grind (arith, nat_tests)

push-digit : (ds : List ℕ) (d : ℕ) → list_all is_decimal_digit ds ≡ true → is_decimal_digit d ≡ true → list_all is_decimal_digit (ds ++ d ∷ []) ≡ true
push-digit [] d h e = rw e refl
push-digit (x ∷ xs) d h e = by (is_decimal_digit x) h (λ k. push-digit xs d k e)
  where
    by : (b : Bool) → (b && list_all is_decimal_digit xs) ≡ true → (list_all is_decimal_digit xs ≡ true → list_all is_decimal_digit (xs ++ d ∷ []) ≡ true) → (b && list_all is_decimal_digit (xs ++ d ∷ [])) ≡ true
    by true k rest = rest k
    by false k rest = cc

decimal-digits : (n : ℕ) → n < 2 ^ 64 → list_all is_decimal_digit (decimal n) ≡ true
decimal-digits n lt =
    decimal_by_steps (λ _ ds. list_all is_decimal_digit ds ≡ true) (λ m small. rw (digit-ok m small) refl) (λ m ds big so_far. push-digit ds (48 + m % 10) so_far (digit-ok (m % 10) (omega arith))) n lt

no-leading-zero : (ds : List ℕ) → 48 < get_or ds 0 0 → has_leading_zero ds ≡ false
no-leading-zero [] h = refl
no-leading-zero (x ∷ []) h = refl
no-leading-zero (x ∷ y ∷ ys) h = grind (arith, nat_tests, h)

decimal-plain : (n : ℕ) → n < 2 ^ 64 → has_leading_zero (decimal n) ≡ false
decimal-plain n lt =
    elim (cases_lt 0 n) [
      | inl some ↦ no-leading-zero (decimal n) (first_decimal n some lt)
      | inr none ↦ (let small : n < 10 = omega (arith, none) in rw (decimal_digit n small) refl)
    ]

decimal-number : (n : ℕ) → n < 2 ^ 64 → is_number (decimal n) ≡ true
decimal-number n lt =
    let some = le-leb 1 (length (decimal n)) (decimal_nonempty n lt) in
    let short = le-leb (length (decimal n)) 20 (length-decimal-le 20 n (omega arith) (omega (arith, lt)) lt) in
    rw (some, short, decimal-digits n lt, decimal-plain n lt) refl

pub decimal-of : (least greatest n : ℕ) → n < 2 ^ 64 → least ≤ n → n ≤ greatest → is_of (number least greatest) (decimal n) ≡ true
decimal-of least greatest n lt low high =
    let value : value_of_digits (decimal n) ≡ n = (decimal_is_IsNumeral n lt).1 in
    rw (decimal-number n lt, value, le-leb least n low, le-leb n greatest high) refl

both : (a b : Bool) → (a && b) ≡ true → (a ≡ true) × (b ≡ true)
both true b e = (refl, e)
both false b e = cc

-- a text of the kind is the spelling of its number
pub of-decimal : (least greatest : ℕ) (text : List ℕ) → greatest < 2 ^ 64 → is_of (number least greatest) text ≡ true → (least ≤ number_read text) × (number_read text ≤ greatest) × (text ≡ decimal (number_read text))
of-decimal least greatest text small is =
    let outer = both (is_number text) (nat_le least (value_of_digits text) && nat_le (value_of_digits text) greatest) is in
    let range = both (nat_le least (value_of_digits text)) (nat_le (value_of_digits text) greatest) outer.1 in
    let low = leb-true least (value_of_digits text) range.0 in
    let high = leb-true (value_of_digits text) greatest range.1 in
    let fits : value_of_digits text < 2 ^ 64 = omega (arith, high, small) in
    let read : number_read text ≡ value_of_digits text = rw (outer.0, lt-ltb (value_of_digits text) (2 ^ 64) fits) refl in
    let parts = number_parts text outer.0 in
    let spelled = decimal-digits_value numerals text (digits text parts.digits) (omega (arith, parts.some)) (lone text parts.plain) fits in
    (omega (arith, low, read), omega (arith, high, read), sym (ap decimal read ∙ spelled))
  where
    lone : (ds : List ℕ) → not (has_leading_zero ds) ≡ true → get_or ds 0 0 ≡ 48 → length ds ≡ 1
    lone [] h e = cc
    lone (x ∷ []) h e = refl
    lone (x ∷ y ∷ ys) h e = absurd (let z : (x == 48) ≡ true = grind (arith, nat_tests, e) in let w : not (x == 48) ≡ true = h in let v : not true ≡ true = rw z at w in cc)
