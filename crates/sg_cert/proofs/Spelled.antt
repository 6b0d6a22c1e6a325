-- Lines that are spelled and read again.
use Rattle.std.proofs.Common.{◌≡◌, ℕ, suc, zero, ◌+◌, ◌<◌, ◌≤◌, ◌^◌, Bool, true, false, not, ◌&&◌, List, [], ◌∷◌, ◌++◌, length, map, drop, Some, Ok, ℤ, pos, negsuc, refl, sym, ap, ◌∙◌, arith, append_assoc}
use Rattle.std.specs.Prelude.{◌==◌, nat_lt, decimal}
use Rattle.std.specs.Fmt.{signed_decimal}
use Rattle.std.specs.List.{list_all, join_with_byte, All, AllByRecursion, position_or_len}
use Rattle.std.proofs.lemmas.Bool.{lt-ltb, ltb-true}
use Rattle.std.proofs.lemmas.Bool.Decides.{nat_tests}
use Rattle.std.proofs.lemmas.List.{length-append, take_at, drop_at}
use Rattle.std.proofs.lemmas.List.Sums.{position_or_len_is}
use Rattle.std.proofs.lemmas.List.Splits.{slice_split_at, slice_split_none}
use Rattle.std.proofs.Math.ListN.{get_or-append}
use Rattle.std.proofs.Math.Seq.{get_or-append_seam}
use Rattle.sg_num.specs.Exact.{fits}
use Rattle.sg_cert.specs.Place.{Place}
use Rattle.sg_cert.specs.Fields.{fields, split_once, is_digit}
use Rattle.sg_cert.specs.Lines.{line_at, line_cut, next_line}
use Rattle.sg_cert.specs.Text.{FieldRow, spell, spaced}
use Rattle.sg_cert.proofs.Cut.{both, is_digit_byte}
use Rattle.sg_cert.proofs.Numbers.{decimal_spells}

-- ---- bytes that stand in no field

abbrev pub lacks : ℕ → List ℕ → Bool
lacks b xs = list_all (λ x. not (x == b)) xs

lacks_append : (b : ℕ) (xs ys : List ℕ) → lacks b xs ≡ true → lacks b ys ≡ true → lacks b (xs ++ ys) ≡ true
lacks_append b [] ys h k = k
lacks_append b (x ∷ xs) ys h k = let t = both (not (x == b)) (lacks b xs) h in rw (t.0) (lacks_append b xs ys t.1 k)

not_false : (t : Bool) → not t ≡ true → t ≡ false
not_false true e = absurd (let w : false ≡ true = e in cc)
not_false false e = refl

lacks_all : (b : ℕ) (xs : List ℕ) → lacks b xs ≡ true → All (λ x. (x == b) ≡ false) xs
lacks_all b [] h k d lt = absurd (omega (arith, lt))
lacks_all b (x ∷ xs) h zero d lt = not_false (x == b) (both (not (x == b)) (lacks b xs) h).0
lacks_all b (x ∷ xs) h (suc k) d lt = lacks_all b xs (both (not (x == b)) (lacks b xs) h).1 k d (omega arith)

-- a field: no space and no newline
abbrev pub is_plain : List ℕ → Bool
is_plain f = lacks 32 f && lacks 10 f

digits_lack : (b : ℕ) (ds : List ℕ) → b < 48 → list_all is_digit ds ≡ true → lacks b ds ≡ true
digits_lack b [] small h = refl
digits_lack b (d ∷ ds) small h =
    let t = both (is_digit d) (list_all is_digit ds) h in
    let low = (is_digit_byte d t.0).0 in
    let other : (d == b) ≡ false = grind (arith, nat_tests) in
    rw other (digits_lack b ds small t.1)

pub decimal_plain : (n : ℕ) → n < 2 ^ 128 → is_plain (decimal n) ≡ true
decimal_plain n small =
    let s = decimal_spells n (omega (arith, small)) in
    rw (digits_lack 32 (decimal n) (omega arith) s.digits, digits_lack 10 (decimal n) (omega arith) s.digits) refl

pub signed_plain : (z : ℤ) → fits z ≡ true → is_plain (signed_decimal z) ≡ true
signed_plain (pos n) h = decimal_plain n (let t : n < 2 ^ 127 = ltb-true n (2 ^ 127) h in omega (arith, t))
signed_plain (negsuc n) h =
    let t : n < 2 ^ 127 = ltb-true n (2 ^ 127) h in
    decimal_plain (suc n) (omega (arith, t))

pub decimals_plain : (xs : List ℕ) → AllByRecursion (λ x. x ≤ 65535) xs → list_all is_plain (map decimal xs) ≡ true
decimals_plain [] h = refl
decimals_plain (x ∷ xs) h = rw (decimal_plain x (omega (arith, h.0))) (decimals_plain xs h.1)

-- ---- fields

pub fields_again : (f : List ℕ) (fs : FieldRow) → list_all is_plain (f ∷ fs) ≡ true → fields (join_with_byte 32 (f ∷ fs)) ≡ f ∷ fs
fields_again f [] h = slice_split_none (λ b. b == 32) f (lacks_all 32 f (both (lacks 32 f) (lacks 10 f) (both (is_plain f) true h).0).0)
fields_again f (g ∷ fs) h =
    let t = both (is_plain f) (list_all is_plain (g ∷ fs)) h in
    slice_split_at (λ b. b == 32) f 32 (join_with_byte 32 (g ∷ fs)) (lacks_all 32 f (both (lacks 32 f) (lacks 10 f) t.0).0) refl
    ∙ ap (λ (r : FieldRow). f ∷ r) (fields_again g fs t.1)

join_lacks : (f : List ℕ) (fs : FieldRow) → list_all is_plain (f ∷ fs) ≡ true → lacks 10 (join_with_byte 32 (f ∷ fs)) ≡ true
join_lacks f [] h = (both (lacks 32 f) (lacks 10 f) (both (is_plain f) true h).0).1
join_lacks f (g ∷ fs) h =
    let t = both (is_plain f) (list_all is_plain (g ∷ fs)) h in
    lacks_append 10 f (32 ∷ join_with_byte 32 (g ∷ fs)) (both (lacks 32 f) (lacks 10 f) t.0).1 (join_lacks g fs t.1)

pub spell_join : (f : List ℕ) (fs : FieldRow) → spell (f ∷ fs) ≡ join_with_byte 32 (f ∷ fs) ++ 10 ∷ []
spell_join f [] = refl
spell_join f (g ∷ fs) =
    ap (λ (t : List ℕ). f ++ t) (ap (λ (t : List ℕ). 32 ∷ t) (append_assoc g (spaced fs) (10 ∷ []) ∙ spell_join g fs))
    ∙ sym (append_assoc f (32 ∷ join_with_byte 32 (g ∷ fs)) (10 ∷ []))

-- ---- lines

same_byte : (b : ℕ) → (b == b) ≡ true
same_byte b = grind (arith, nat_tests)

cut_again : (b : ℕ) (xs ys : List ℕ) → All (λ x. (x == b) ≡ false) xs → split_once b (xs ++ b ∷ ys) ≡ Some (xs, ys)
cut_again b xs ys h =
    let at : position_or_len (λ x. x == b) (xs ++ b ∷ ys) ≡ length xs =
    position_or_len_is (λ x. x == b) (xs ++ b ∷ ys) (length xs) 0 (omega (arith, length-append xs (b ∷ ys))) (λ k lt. rw (get_or-append xs (b ∷ ys) 0 k lt) (h k 0 lt)) (λ lt. rw (get_or-append_seam xs b ys 0) (same_byte b)) in
    let within : nat_lt (length xs) (length (xs ++ b ∷ ys)) ≡ true = lt-ltb _ _ (omega (arith, length-append xs (b ∷ ys))) in
    let back : drop (length xs + 1) (xs ++ b ∷ ys) ≡ ys = ap (λ (zs : List ℕ). drop (length xs + 1) zs) (sym (append_assoc xs (b ∷ []) ys)) ∙ drop_at (xs ++ b ∷ []) ys (length xs + 1) (omega (arith, length-append xs (b ∷ []))) in
    rw (at, within, take_at xs (b ∷ ys) (length xs) refl, back) refl

abbrev pub place : List ℕ → ℕ → Place
place rest line = record { rest = rest; line = line }

row_cut : (f : List ℕ) (fs : FieldRow) (more : List ℕ) → list_all is_plain (f ∷ fs) ≡ true → split_once 10 (spell (f ∷ fs) ++ more) ≡ Some (join_with_byte 32 (f ∷ fs), more)
row_cut f fs more h =
    ap (λ (t : List ℕ). split_once 10 (t ++ more)) (spell_join f fs) ∙ ap (split_once 10) (append_assoc (join_with_byte 32 (f ∷ fs)) (10 ∷ []) more)
    ∙ cut_again 10 (join_with_byte 32 (f ∷ fs)) more (lacks_all 10 (join_with_byte 32 (f ∷ fs)) (join_lacks f fs h))

-- a line that was spelled is read again
pub line_again : (f : List ℕ) (fs : FieldRow) (more : List ℕ) (line : ℕ) → list_all is_plain (f ∷ fs) ≡ true
    → line_at (place (spell (f ∷ fs) ++ more) line) ≡ Ok (join_with_byte 32 (f ∷ fs), place more (line + 1))
unfolding line_at
line_again f fs more line h = ap (line_cut (line + 1)) (row_cut f fs more h)

pub next_again : (f : List ℕ) (fs : FieldRow) (more : List ℕ) (line : ℕ) → list_all is_plain (f ∷ fs) ≡ true → next_line (place (spell (f ∷ fs) ++ more) line) ≡ Some (join_with_byte 32 (f ∷ fs))
next_again f fs more line h = rw (row_cut f fs more h) refl
