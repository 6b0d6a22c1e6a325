-- Fields that are taken one after the other.
use Rattle.std.proofs.Common.{◌≡◌, ℕ, suc, zero, ◌+◌, ◌<◌, ◌≤◌, Bool, true, false, ◌&&◌, List, [], ◌∷◌, length, get_or, drop, Option, Some, None, refl, sym, ap, ◌∙◌, arith, inl, inr}
use Rattle.std.specs.Prelude.{◌==◌, slice_get, Result, Ok, Err}
use Rattle.std.specs.List.{list_all, position_or_len}
use Rattle.std.specs.Char.{digit_value}
use Rattle.std.proofs.lemmas.Bool.{cases_lt, le-ltb, lt-ltb}
use Rattle.std.proofs.lemmas.List.Splits.{slice_split_first, slice_split_none}
use Rattle.std.proofs.lemmas.List.Sums.{fails_before_first}
use Rattle.sg_cert.specs.Fields.{fields, split_once, is_digit, word_at, words_of, spelled_at, spelled_of}
use Rattle.sg_model.specs.Steps.{◌>>=◌}
use Rattle.sg_cert.proofs.Cut.{both, is_digit_byte}
use Rattle.sg_cert_reader.specs.Steps.{fields_left}

abbrev cut : List ℕ → Option (List ℕ × List ℕ) → List (List ℕ)
cut bs None = bs ∷ []
cut bs (Some p) = p.0 ∷ fields p.1

abbrev is_space : ℕ → Bool
is_space x = x == 32

fields_cut : (bs : List ℕ) → fields bs ≡ cut bs (split_once 32 bs)
fields_cut bs =
    elim (cases_lt (position_or_len is_space bs) (length bs)) [
      | inl lt ↦ rw (lt-ltb _ _ lt) (slice_split_first is_space bs 0 lt)
      | inr le ↦ rw (le-ltb _ _ le) (slice_split_none is_space bs (λ k d h. fails_before_first is_space bs k d (omega arith)))
    ]

pub digit_at : (bs : List ℕ) (i : ℕ) → i < length bs → list_all is_digit bs ≡ true → (48 ≤ get_or bs i 0) × (digit_value (get_or bs i 0) + 48 ≡ get_or bs i 0)
digit_at [] i h e = absurd (omega (arith, h))
digit_at (b ∷ bs) zero h e = is_digit_byte b (both (is_digit b) (list_all is_digit bs) e).0
digit_at (b ∷ bs) (suc i) h e = digit_at bs i (omega arith) (both (is_digit b) (list_all is_digit bs) e).1

-- one field taken
pub take_some : (rest : List ℕ) (ended : Bool) (before : List (List ℕ)) (f after : List ℕ) → fields_left rest ended ≡ before → ended ≡ false → Some (f, after) ≡ split_once 32 rest → before ≡ f ∷ fields_left after ended
take_some rest ended before f after v e h = sym v ∙ rw e (fields_cut rest ∙ ap (cut rest) (sym h))

pub take_last : (rest : List ℕ) (ended : Bool) (before : List (List ℕ)) → fields_left rest ended ≡ before → ended ≡ false → None ≡ split_once 32 rest → before ≡ rest ∷ []
take_last rest ended before v e h = sym v ∙ rw e (fields_cut rest ∙ ap (cut rest) (sym h))

pub taken_first : (before : List (List ℕ)) (f : List ℕ) (more : List (List ℕ)) → before ≡ f ∷ more → Some f ≡ slice_get before 0
taken_first before f more e = rw e refl

pub taken_rest : (before : List (List ℕ)) (f : List ℕ) (more : List (List ℕ)) → before ≡ f ∷ more → more ≡ drop 1 before
taken_rest before f more e = rw e refl

-- ---- the fixed words, one after the other

words_step : (ws fs : List (List ℕ)) (w : List ℕ) (more : List (List ℕ)) → ws ≡ w ∷ more → words_of ws fs ≡ (word_at w (slice_get fs 0) >>= λ _. words_of more (drop 1 fs))
unfolding words_of
words_step ws fs w more e = rw e refl

pub words_end : (ws fs : List (List ℕ)) → ws ≡ [] → words_of ws fs ≡ Ok tt
unfolding words_of
words_end ws fs e = rw e refl

spelled_step : (ws fs : List (List ℕ)) (f : List ℕ) (more : List (List ℕ)) → fs ≡ f ∷ more → spelled_of ws fs ≡ (spelled_at (slice_get ws 0) f && spelled_of (drop 1 ws) more)
unfolding spelled_of
spelled_step ws fs f more e = rw e refl

pub spelled_end : (ws fs : List (List ℕ)) → fs ≡ [] → spelled_of ws fs ≡ true
unfolding spelled_of
spelled_end ws fs e = rw e refl

-- a word that stands where it is due
pub words_more : (ws fs : List (List ℕ)) (w : List ℕ) (more : List (List ℕ)) (f : Option (List ℕ)) (rest : List (List ℕ)) (whole : Result (Unit {0}) ℕ)
    → ws ≡ w ∷ more → f ≡ slice_get fs 0 → rest ≡ drop 1 fs → Ok tt ≡ word_at w f → words_of ws fs ≡ whole → words_of more rest ≡ whole
words_more ws fs w more f rest whole e g h k so_far = sym (words_step ws fs w more e ∙ rw (← g, ← k, ← h) refl) ∙ so_far

pub words_fail : (ws fs : List (List ℕ)) (w : List ℕ) (more : List (List ℕ)) (f : Option (List ℕ)) (reason : ℕ) (whole : Result (Unit {0}) ℕ)
    → ws ≡ w ∷ more → f ≡ slice_get fs 0 → Err reason ≡ word_at w f → words_of ws fs ≡ whole → Err reason ≡ whole
words_fail ws fs w more f reason whole e g k so_far = sym (words_step ws fs w more e ∙ rw (← g, ← k) refl) ∙ so_far

pub spelled_more : (ws fs : List (List ℕ)) (f : List ℕ) (more : List (List ℕ)) (w : Option (List ℕ)) (rest : List (List ℕ)) (whole : Bool)
    → fs ≡ f ∷ more → w ≡ slice_get ws 0 → rest ≡ drop 1 ws → spelled_at w f ≡ true → spelled_of ws fs ≡ whole → spelled_of rest more ≡ whole
spelled_more ws fs f more w rest whole e g h k so_far = sym (spelled_step ws fs f more e ∙ rw (← g, k, ← h) refl) ∙ so_far

pub spelled_fail : (ws fs : List (List ℕ)) (f : List ℕ) (more : List (List ℕ)) (w : Option (List ℕ)) (whole : Bool)
    → fs ≡ f ∷ more → w ≡ slice_get ws 0 → spelled_at w f ≡ false → spelled_of ws fs ≡ whole → false ≡ whole
spelled_fail ws fs f more w whole e g k so_far = sym (spelled_step ws fs f more e ∙ rw (← g, k) refl) ∙ so_far

drop_suc : (fs : List (List ℕ)) (i : ℕ) → drop 1 (drop i fs) ≡ drop (suc i) fs
drop_suc [] zero = refl
drop_suc [] (suc i) = refl
drop_suc (f ∷ fs) zero = refl
drop_suc (f ∷ fs) (suc i) = drop_suc fs i

pub drop_once : (fs : List (List ℕ)) (i : ℕ) → drop 1 (drop i fs) ≡ drop (i + 1) fs
drop_once fs i = let k : i + 1 ≡ suc i = omega arith in rw k (drop_suc fs i)
