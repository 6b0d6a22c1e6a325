-- Numbers that are spelled and read again.
use Rattle.std.proofs.Common.{◌≡◌, ℕ, suc, zero, ◌+◌, ◌*◌, ◌<◌, ◌≤◌, ◌^◌, ◌/◌, ◌%◌, Bool, true, false, cond, not, map, ◌&&◌, List, [], ◌∷◌, ◌++◌, length, get_or, take, Option, Some, None, Result, Ok, Err, ℤ, pos, negsuc, ◌-ℤ◌, refl, sym, ap, subst, ◌∙◌, arith, inl, inr, zero-add, append_assoc}
use Rattle.std.specs.Prelude.{◌==◌, nat_lt, nat_le, bytes_eq, decimal, ◌≤ℤ◌, if◌then◌else◌}
use Rattle.std.specs.Fmt.{signed_decimal}
use Rattle.std.specs.List.{list_all, AllByRecursion}
use Rattle.std.specs.Str.Parse.{digits_value}
use Rattle.std.specs.Char.{digit_value}
use Rattle.std.specs.Int.Signed.{le_z}
use Rattle.std.proofs.lemmas.Bool.{cases_lt, lt-ltb, ltb-true}
use Rattle.std.proofs.lemmas.Bool.Decides.{nat_tests, eqb_tells}
use Rattle.std.proofs.lemmas.Int.{ints}
use Rattle.std.proofs.lemmas.Fmt.{decimal_by_steps_wide, decimal_digit, decimal_step_wide}
use Rattle.std.proofs.lemmas.Int.Digits.{digits_value_push}
use Rattle.std.proofs.lemmas.List.{append-nil, length-append, take_more, take_all, length-take, get_or-take}
use Rattle.std.proofs.lemmas.Str.{digit_value_digit}
use Rattle.sg_num.specs.Exact.{fits}
use Rattle.sg_cert.specs.Fields.{is_digit, is_natural, is_number_text, value_of, fitting, natural_of, natural_next, whole_of, whole_next, numbers_of}
use Rattle.sg_model.specs.Steps.{◌>>=◌}
use Rattle.sg_cert.proofs.Cut.{both, is_digit_byte, natural_digits}

-- the digits of a number
pub record Spells (n : ℕ) (ds : List ℕ) : Type 0 where
  pub some : 0 < length ds
  pub first : 0 < n → 48 < get_or ds 0 0
  pub digits : list_all is_digit ds ≡ true
  pub value : digits_value 10 ds ≡ n
  pub short : n < 10 → length ds ≡ 1

digit_ok : (d : ℕ) → d < 10 → is_digit (48 + d) ≡ true
digit_ok d h = grind (arith, nat_tests)

list_all_push : (ds : List ℕ) (d : ℕ) → list_all is_digit ds ≡ true → is_digit d ≡ true → list_all is_digit (ds ++ d ∷ []) ≡ true
list_all_push [] d h e = rw e refl
list_all_push (x ∷ xs) d h e = let t = both (is_digit x) (list_all is_digit xs) h in rw (t.0) (list_all_push xs d t.1 e)

first_push : (ds : List ℕ) (d : ℕ) → 0 < length ds → get_or (ds ++ d ∷ []) 0 0 ≡ get_or ds 0 0
first_push [] d h = absurd (omega (arith, h))
first_push (x ∷ xs) d h = refl

digit_value_ok : (d : ℕ) → d < 10 → digit_value (48 + d) ≡ d
digit_value_ok d h = let t = is_digit_byte (48 + d) (digit_ok d h) in omega (arith, t.1)

pub decimal_spells : (n : ℕ) → n < 10 ^ 64 → Spells n (decimal n)
decimal_spells = decimal_by_steps_wide Spells
    (λ n h. record {
      some = omega arith;
      first = λ p. omega arith;
      digits = rw (digit_ok n h) refl;
      value = rw zero-add (digit_value_ok n h);
      short = λ p. refl;
    })
    (λ n ds ten so_far. record {
      some = omega (arith, length-append ds ((48 + n % 10) ∷ []));
      first = λ p. rw (first_push ds (48 + n % 10) so_far.some) (so_far.first (omega arith));
      digits = list_all_push ds (48 + n % 10) so_far.digits (digit_ok (n % 10) (omega arith));
      value = digits_value_push 10 ds (48 + n % 10) ∙ rw (so_far.value, digit_value_ok (n % 10) (omega arith)) (omega arith);
      short = λ p. absurd (omega arith);
    })

pub spells_natural : (n : ℕ) (ds : List ℕ) → Spells n ds → is_natural ds ≡ true
spells_natural n [] s = absurd (omega (arith, s.some))
spells_natural n (b ∷ []) s = (both (is_digit b) true s.digits).0
spells_natural n (b ∷ c ∷ bs) s =
    let ten : 10 ≤ n = elim (cases_lt n 10) [ inl lt ↦ absurd (omega (arith, s.short lt)) | inr le ↦ le ] in
    let high : 48 < b = s.first (omega arith) in
    let t = both (is_digit b) (list_all is_digit (c ∷ bs)) s.digits in
    let u = both (nat_le 48 b) (nat_le b 57) t.0 in
    let v : nat_lt 48 b ≡ true = lt-ltb 48 b high in
    rw (v, u.1) t.1

no_minus : (n : ℕ) (ds : List ℕ) → Spells n ds → is_number_text ds ≡ is_natural ds
no_minus n [] s = absurd (omega (arith, s.some))
no_minus n (b ∷ bs) s =
    let d = is_digit_byte b (both (is_digit b) (list_all is_digit bs) s.digits).0 in
    let t : (b == 45) ≡ false = grind (arith, nat_tests) in
    rw t refl

no_minus_value : (n : ℕ) (ds : List ℕ) → Spells n ds → value_of ds ≡ pos (digits_value 10 ds)
no_minus_value n [] s = absurd (omega (arith, s.some))
no_minus_value n (b ∷ bs) s =
    let d = is_digit_byte b (both (is_digit b) (list_all is_digit bs) s.digits).0 in
    let t : (b == 45) ≡ false = grind (arith, nat_tests) in
    rw t refl

-- a natural number that was spelled is read again
pub natural_again : (n : ℕ) → n < 2 ^ 127 → fitting (decimal n) ≡ Some (pos n)
natural_again n small =
    let s = decimal_spells n (omega arith) in
    let t : is_number_text (decimal n) ≡ true = no_minus n (decimal n) s ∙ spells_natural n (decimal n) s in
    let v : value_of (decimal n) ≡ pos n = no_minus_value n (decimal n) s ∙ ap pos s.value in
    rw (t, v, lt-ltb n (2 ^ 127) small) refl

same_byte : (b : ℕ) → (b == b) ≡ true
same_byte b = grind (arith, nat_tests)

chosen : (b : Bool) (x y : ℤ) → cond b (Some x) None ≡ Some y → b ≡ true
chosen true x y e = refl
chosen false x y e = absurd cc

-- ---- numbers below 0

not_zero : (n : ℕ) (ds : List ℕ) → 0 < n → Spells n ds → bytes_eq ds (48 ∷ []) ≡ false
not_zero n [] p s = absurd (omega (arith, s.some))
not_zero n (b ∷ bs) p s = let high : 48 < b = s.first p in let t : (b == 48) ≡ false = grind (arith, nat_tests) in rw t refl

pub negative_again : (n : ℕ) → n < 2 ^ 127 → fitting (signed_decimal (negsuc n)) ≡ Some (negsuc n)
negative_again n small =
    let s = decimal_spells (suc n) (omega arith) in
    let below : pos 0 -ℤ pos (suc n) ≡ negsuc n = omega (arith, ints) in
    let v : pos 0 -ℤ pos (digits_value 10 (decimal (suc n))) ≡ negsuc n = ap (λ k. pos 0 -ℤ pos k) s.value ∙ below in
    rw (spells_natural (suc n) (decimal (suc n)) s, not_zero (suc n) (decimal (suc n)) (omega arith) s, v, lt-ltb n (2 ^ 127) small) refl

-- a whole number that was spelled is read again
pub whole_again : (z : ℤ) → fits z ≡ true → fitting (signed_decimal z) ≡ Some z
whole_again (pos n) h = natural_again n (ltb-true n (2 ^ 127) h)
whole_again (negsuc n) h = negative_again n (ltb-true n (2 ^ 127) h)

-- what fits is a number in the one spelling
pub spelled_from_fitting : (text : List ℕ) (z : ℤ) → fitting text ≡ Some z → is_number_text text ≡ true
spelled_from_fitting text z e = (both (is_number_text text) (fits (value_of text)) (chosen (is_number_text text && fits (value_of text)) (value_of text) z e)).0

pub natural_spelled : (n : ℕ) → n < 2 ^ 127 → is_number_text (decimal n) ≡ true
natural_spelled n small = spelled_from_fitting (decimal n) (pos n) (natural_again n small)

pub whole_spelled : (z : ℤ) → fits z ≡ true → is_number_text (signed_decimal z) ≡ true
whole_spelled z fit = spelled_from_fitting (signed_decimal z) z (whole_again z fit)

pub natural_of_again : (low high n : ℕ) → n < 2 ^ 127 → low ≤ n → n ≤ high → natural_of low high (fitting (decimal n)) ≡ Ok n
natural_of_again low high n small from to =
    let a : nat_le low n ≡ true = grind (arith, nat_tests) in
    let b : nat_le n high ≡ true = grind (arith, nat_tests) in
    rw (natural_again n small, a, b) refl

pub natural_next_again : (low high n : ℕ) (fs : List (List ℕ)) → n < 2 ^ 127 → low ≤ n → n ≤ high → natural_next low high (decimal n ∷ fs) ≡ Ok (n, fs)
natural_next_again low high n fs small from to = rw (natural_of_again low high n small from to) refl

le_z_true : (a b : ℤ) → a ≤ℤ b → le_z a b ≡ true
le_z_true a b h = sym (omega (arith, ints, h))

le_z_is : (a b : ℤ) → le_z a b ≡ true → a ≤ℤ b
le_z_is a b h = omega (arith, ints, h)

pub whole_next_again : (low high z : ℤ) (fs : List (List ℕ)) → fits z ≡ true → low ≤ℤ z → z ≤ℤ high → whole_next low high (signed_decimal z ∷ fs) ≡ Ok (z, fs)
whole_next_again low high z fs fit from to = rw (whole_again z fit, le_z_true low z from, le_z_true z high to) refl

-- ---- digits that were read are those of their value

abbrev IsDigits : List ℕ → Type 0
IsDigits ds = (i : ℕ) → i < length ds → (48 ≤ get_or ds i 0) × (get_or ds i 0 ≤ 57)

front_digits : (k : ℕ) (ds : List ℕ) → k < length ds → IsDigits ds → IsDigits (take k ds)
front_digits k ds lt h i j = let w : i < k = omega (arith, length-take k ds) in rw (get_or-take k ds i 0 w) (h i (omega arith))

pub decimal_back : (k : ℕ) (ds : List ℕ) → length ds ≡ suc k → IsDigits ds → 48 < get_or ds 0 0 → digits_value 10 ds < 10 ^ 64 → (decimal (digits_value 10 ds) ≡ ds) × (1 ≤ digits_value 10 ds)
decimal_back zero [] len h first small = absurd (omega (arith, len))
decimal_back zero (b ∷ []) len h first small =
    let v : digit_value b + 48 ≡ b = digit_value_digit b (h 0 (omega arith)) in
    let w : digits_value 10 (b ∷ []) ≡ digit_value b = zero-add (digit_value b) in
    let e : 48 + digit_value b ≡ b = omega (arith, v) in
    (ap decimal w ∙ decimal_digit (digit_value b) (omega (arith, v, (h 0 (omega arith)).1)) ∙ ap (λ c. c ∷ []) e, omega (arith, v, w))
decimal_back zero (b ∷ c ∷ bs) len h first small = absurd (omega (arith, len))
decimal_back (suc k) ds len h first small =
    let front = take (suc k) ds in
    let d = get_or ds (suc k) 0 in
    let whole : ds ≡ front ++ d ∷ [] = sym (take_all (suc k + 1) ds (omega (arith, len))) ∙ take_more ds (suc k) 0 (omega (arith, len)) in
    let digit = h (suc k) (omega (arith, len)) in
    let v : digit_value d + 48 ≡ d = digit_value_digit d digit in
    let value : digits_value 10 ds ≡ digits_value 10 front * 10 + digit_value d = ap (digits_value 10) whole ∙ digits_value_push 10 front d in
    let head : 48 < get_or front 0 0 = rw (get_or-take (suc k) ds 0 0 (omega arith)) first in
    let ih = decimal_back k front (omega (arith, length-take (suc k) ds, len)) (front_digits (suc k) ds (omega (arith, len)) h) head (omega (arith, value)) in
    let ten : 10 ≤ digits_value 10 ds = omega (arith, value, ih.1) in
    let quotient : digits_value 10 ds / 10 ≡ digits_value 10 front = omega (arith, value, v, digit.1) in
    let remainder : 48 + digits_value 10 ds % 10 ≡ d = omega (arith, value, v, digit.1) in
    (decimal_step_wide (digits_value 10 ds) ten small ∙ rw (quotient, remainder, ih.0) (sym whole), omega (arith, ten))

digits_are : (ds : List ℕ) → list_all is_digit ds ≡ true → IsDigits ds
digits_are [] h i lt = absurd (omega (arith, lt))
digits_are (d ∷ ds) h zero lt =
    let t = both (nat_le 48 d) (nat_le d 57) (both (is_digit d) (list_all is_digit ds) h).0 in
    let low : 48 ≤ d = grind (arith, nat_tests) in
    let high : d ≤ 57 = grind (arith, nat_tests) in
    (low, high)
digits_are (d ∷ ds) h (suc i) lt = digits_are ds (both (is_digit d) (list_all is_digit ds) h).1 i (omega arith)

-- a natural number in the one spelling is what `decimal` writes of its value
pub natural_back : (ds : List ℕ) → is_natural ds ≡ true → digits_value 10 ds < 10 ^ 64 → decimal (digits_value 10 ds) ≡ ds
natural_back [] h small = absurd (let w : true ≡ false = sym h in cc)
natural_back (b ∷ []) h small =
    let t = is_digit_byte b h in
    let w : digits_value 10 (b ∷ []) ≡ digit_value b = zero-add (digit_value b) in
    let u = both (nat_le 48 b) (nat_le b 57) h in
    let high : b ≤ 57 = grind (arith, nat_tests) in
    let e : 48 + digit_value b ≡ b = omega (arith, t.1) in
    ap decimal w ∙ decimal_digit (digit_value b) (omega (arith, t.1, high)) ∙ ap (λ c. c ∷ []) e
natural_back (b ∷ c ∷ bs) h small =
    let t = both (nat_lt 48 b && nat_le b 57) (list_all is_digit (c ∷ bs)) h in
    let u = both (nat_lt 48 b) (nat_le b 57) t.0 in
    let first : 48 < b = grind (arith, nat_tests) in
    (decimal_back (length bs + 1) (b ∷ c ∷ bs) (omega arith) (digits_are (b ∷ c ∷ bs) (natural_digits (b ∷ c ∷ bs) h)) first small).0

-- a number but 0 has a value of at least 1
natural_some : (ds : List ℕ) → is_natural ds ≡ true → bytes_eq ds (48 ∷ []) ≡ false → digits_value 10 ds < 10 ^ 64 → 1 ≤ digits_value 10 ds
natural_some [] h e small = absurd (let w : true ≡ false = sym h in cc)
natural_some (b ∷ []) h e small =
    let t = is_digit_byte b h in
    let w : digits_value 10 (b ∷ []) ≡ digit_value b = zero-add (digit_value b) in
    elim (cases_lt b 49) [
      | inl lt ↦ absurd (let z : b ≡ 48 = omega (arith, t.0) in let k : bytes_eq (b ∷ []) (48 ∷ []) ≡ true = rw z refl in let v : true ≡ false = sym k ∙ e in cc)
      | inr le ↦ omega (arith, t.1, w, le)
    ]
natural_some (b ∷ c ∷ bs) h e small =
    let t = both (nat_lt 48 b && nat_le b 57) (list_all is_digit (c ∷ bs)) h in
    let u = both (nat_lt 48 b) (nat_le b 57) t.0 in
    let first : 48 < b = grind (arith, nat_tests) in
    (decimal_back (length bs + 1) (b ∷ c ∷ bs) (omega arith) (digits_are (b ∷ c ∷ bs) (natural_digits (b ∷ c ∷ bs) h)) first small).1

not_true : (b : Bool) → not b ≡ true → b ≡ false
not_true true e = absurd (let w : true ≡ false = sym e in cc)
not_true false e = refl

fits_pos : (n : ℕ) → fits (pos n) ≡ true → n < 10 ^ 64
fits_pos n h = let t : n < 2 ^ 127 = ltb-true n (2 ^ 127) h in omega (arith, t)

minus : (v : ℕ) → (pos 0 -ℤ pos (suc v)) ≡ negsuc v
minus v = omega (arith, ints)

fits_minus : (v : ℕ) → fits (pos 0 -ℤ pos v) ≡ true → v < 10 ^ 64
fits_minus zero h = omega arith
fits_minus (suc v) h =
    let e : fits (negsuc v) ≡ true = rw (minus v) at h in
    let t : v < 2 ^ 127 = ltb-true v (2 ^ 127) e in
    omega (arith, t)

minus_text : (v : ℕ) → 1 ≤ v → signed_decimal (pos 0 -ℤ pos v) ≡ 45 ∷ decimal v
minus_text zero h = absurd (omega (arith, h))
minus_text (suc v) h = rw (minus v) refl

below_back : (bs : List ℕ) → (is_natural bs && not (bytes_eq bs (48 ∷ []))) ≡ true → fits (pos 0 -ℤ pos (digits_value 10 bs)) ≡ true → signed_decimal (pos 0 -ℤ pos (digits_value 10 bs)) ≡ 45 ∷ bs
below_back bs h f =
    let t = both (is_natural bs) (not (bytes_eq bs (48 ∷ []))) h in
    let small = fits_minus (digits_value 10 bs) f in
    let some = natural_some bs t.0 (not_true (bytes_eq bs (48 ∷ [])) t.1) small in
    minus_text (digits_value 10 bs) some ∙ ap (λ (ds : List ℕ). 45 ∷ ds) (natural_back bs t.0 small)

number_back : (text : List ℕ) → is_number_text text ≡ true → fits (value_of text) ≡ true → signed_decimal (value_of text) ≡ text
number_back [] h f = absurd (let w : true ≡ false = sym h in cc)
number_back (b ∷ bs) h f =
    elim (eqb_tells b 45) [
      | inl k ↦ let e = k.0 in rw e (below_back bs (rw e at h) (rw e at f) ∙ ap (λ (c : ℕ). c ∷ bs) (sym k.1))
      | inr k ↦ let e = k.0 in rw e (natural_back (b ∷ bs) (rw e at h) (fits_pos (digits_value 10 (b ∷ bs)) (rw e at f)))
    ]

chosen_is : (b : Bool) (x y : ℤ) → cond b (Some x) None ≡ Some y → x ≡ y
chosen_is true x y e = cc
chosen_is false x y e = absurd cc

-- what fits is what `signed_decimal` writes
pub fitting_back : (text : List ℕ) (z : ℤ) → fitting text ≡ Some z → (text ≡ signed_decimal z) × (fits z ≡ true)
fitting_back text z e =
    let t = both (is_number_text text) (fits (value_of text)) (chosen (is_number_text text && fits (value_of text)) (value_of text) z e) in
    let v = chosen_is (is_number_text text && fits (value_of text)) (value_of text) z e in
    (sym (number_back text t.0 t.1) ∙ ap signed_decimal v, ap fits (sym v) ∙ t.1)

-- ---- tests that passed

-- the steps of a reading that succeeded
pub bound : {A B E : Type 0} (r : Result A E) (f : A → Result B E) (y : B) → (r >>= f) ≡ Ok y → (x : A) × ((r ≡ Ok x) × (f x ≡ Ok y))
bound (Ok x) f y e = (x, (refl, e))
bound (Err e) f y h = absurd (let w : Err e ≡ Ok y = h in cc)

abbrev judged : {A : Type 0} → Bool → A → Result A ℕ
judged b x = if b then Ok x else Err 6

in_range : (low high n m : ℕ) → judged (nat_le low n && nat_le n high) n ≡ Ok m → (n ≡ m) × ((low ≤ n) × (n ≤ high))
in_range low high n m e = go (nat_le low n && nat_le n high) refl e
  where
    go : (t : Bool) → (nat_le low n && nat_le n high) ≡ t → judged t n ≡ Ok m → (n ≡ m) × ((low ≤ n) × (n ≤ high))
    go true h k =
        let t = both (nat_le low n) (nat_le n high) h in
        let a : low ≤ n = grind (arith, nat_tests) in
        let b : n ≤ high = grind (arith, nat_tests) in
        ((cc), (a, b))
    go false h k = absurd (let w : ◌≡◌ {A = Result ℕ ℕ} (Err 6) (Ok m) = k in cc)

natural_of_back : (low high : ℕ) (field : List ℕ) (x : Option ℤ) (n : ℕ) → fitting field ≡ x → natural_of low high x ≡ Ok n → (field ≡ decimal n) × ((low ≤ n) × (n ≤ high))
natural_of_back low high field None n e h = absurd (let w : ◌≡◌ {A = Result ℕ ℕ} (Err 6) (Ok n) = h in cc)
natural_of_back low high field (Some (pos m)) n e h =
    let t = in_range low high m n h in
    let f = fitting_back field (pos m) e in
    (f.0 ∙ ap decimal t.0, (subst (λ k. low ≤ k) t.0 t.1.0, subst (λ k. k ≤ high) t.0 t.1.1))
natural_of_back low high field (Some (negsuc m)) n e h = absurd (let w : ◌≡◌ {A = Result ℕ ℕ} (Err 6) (Ok n) = h in cc)

-- a field that was read as a natural number
pub natural_field_back : (low high : ℕ) (field : List ℕ) (n : ℕ) → natural_of low high (fitting field) ≡ Ok n → (field ≡ decimal n) × ((low ≤ n) × (n ≤ high))
natural_field_back low high field n h = natural_of_back low high field (fitting field) n refl h

pub natural_next_back : (low high : ℕ) (fs : List (List ℕ)) (x : ℕ × List (List ℕ)) → natural_next low high fs ≡ Ok x → (fs ≡ decimal x.0 ∷ x.1) × ((low ≤ x.0) × (x.0 ≤ high))
natural_next_back low high [] x h = absurd (let w : ◌≡◌ {A = Result (ℕ × List (List ℕ)) ℕ} (Err 6) (Ok x) = h in cc)
natural_next_back low high (f ∷ fs) x h =
    let b = bound (natural_of low high (fitting f)) (λ n. Ok (n, fs)) x h in
    let n = natural_field_back low high f b.0 b.1.0 in
    let e : (b.0, fs) ≡ x = ok_same (b.0, fs) x b.1.1 in
    subst (λ (y : ℕ × List (List ℕ)). (f ∷ fs ≡ decimal y.0 ∷ y.1) × ((low ≤ y.0) × (y.0 ≤ high))) e (ap (λ (g : List ℕ). g ∷ fs) n.0, n.1)
  where
    ok_same : (a b : ℕ × List (List ℕ)) → ◌≡◌ {A = Result (ℕ × List (List ℕ)) ℕ} (Ok a) (Ok b) → a ≡ b
    ok_same a b e = cc

whole_range : (low high z w : ℤ) → judged (le_z low z && le_z z high) z ≡ Ok w → (z ≡ w) × ((low ≤ℤ z) × (z ≤ℤ high))
whole_range low high z w e = go (le_z low z && le_z z high) refl e
  where
    go : (t : Bool) → (le_z low z && le_z z high) ≡ t → judged t z ≡ Ok w → (z ≡ w) × ((low ≤ℤ z) × (z ≤ℤ high))
    go true h k =
        let t = both (le_z low z) (le_z z high) h in
        ((cc), (le_z_is low z t.0, le_z_is z high t.1))
    go false h k = absurd (let v : ◌≡◌ {A = Result ℤ ℕ} (Err 6) (Ok w) = k in cc)

whole_of_back : (low high : ℤ) (field : List ℕ) (x : Option ℤ) (z : ℤ) → fitting field ≡ x → whole_of low high x ≡ Ok z → (field ≡ signed_decimal z) × ((fits z ≡ true) × ((low ≤ℤ z) × (z ≤ℤ high)))
whole_of_back low high field None z e h = absurd (let w : ◌≡◌ {A = Result ℤ ℕ} (Err 6) (Ok z) = h in cc)
whole_of_back low high field (Some y) z e h =
    let t = whole_range low high y z h in
    let f = fitting_back field y e in
    (f.0 ∙ ap signed_decimal t.0, (ap fits (sym t.0) ∙ f.1, (subst (λ k. low ≤ℤ k) t.0 t.1.0, subst (λ k. k ≤ℤ high) t.0 t.1.1)))

pub whole_next_back : (low high : ℤ) (fs : List (List ℕ)) (x : ℤ × List (List ℕ)) → whole_next low high fs ≡ Ok x → (fs ≡ signed_decimal x.0 ∷ x.1) × ((fits x.0 ≡ true) × ((low ≤ℤ x.0) × (x.0 ≤ℤ high)))
whole_next_back low high [] x h = absurd (let w : ◌≡◌ {A = Result (ℤ × List (List ℕ)) ℕ} (Err 6) (Ok x) = h in cc)
whole_next_back low high (f ∷ fs) x h =
    let b = bound (whole_of low high (fitting f)) (λ z. Ok (z, fs)) x h in
    let n = whole_of_back low high f (fitting f) b.0 refl b.1.0 in
    let e : (b.0, fs) ≡ x = ok_same (b.0, fs) x b.1.1 in
    subst (λ (y : ℤ × List (List ℕ)). (f ∷ fs ≡ signed_decimal y.0 ∷ y.1) × ((fits y.0 ≡ true) × ((low ≤ℤ y.0) × (y.0 ≤ℤ high)))) e (ap (λ (g : List ℕ). g ∷ fs) n.0, n.1)
  where
    ok_same : (a b : ℤ × List (List ℕ)) → ◌≡◌ {A = Result (ℤ × List (List ℕ)) ℕ} (Ok a) (Ok b) → a ≡ b
    ok_same a b e = cc

-- ---- lists of numbers

pub numbers_again : (low : ℕ) (done xs : List ℕ) → AllByRecursion (λ x. (low ≤ x) × (x ≤ 65535)) xs → numbers_of low 65535 done (map decimal xs) ≡ Ok (done ++ xs)
unfolding numbers_of
numbers_again low done [] h = ap Ok (sym (append-nil done))
numbers_again low done (x ∷ xs) h =
    rw (natural_of_again low 65535 x (omega (arith, h.0)) h.0.0 h.0.1) (numbers_again low (done ++ x ∷ []) xs h.1 ∙ ap Ok (append_assoc done (x ∷ []) xs))

pub numbers_spelled : (xs : List ℕ) → AllByRecursion (λ x. x ≤ 65535) xs → list_all is_number_text (map decimal xs) ≡ true
numbers_spelled [] h = refl
numbers_spelled (x ∷ xs) h = rw (natural_spelled x (omega (arith, h.0))) (numbers_spelled xs h.1)
