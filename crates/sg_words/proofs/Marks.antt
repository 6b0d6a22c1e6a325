-- How words with and without a hyphen in front look.
use Rattle.std.proofs.Common.{◌≡◌, ◌∙◌, ℕ, ◌<◌, Bool, true, false, List, [], ◌∷◌, length, map, slice_index_or, Option, Some, None, codes, refl, sym, ap, subst, drop, drop-cons, add-one, inl, inr, arith}
use Rattle.std.specs.Prelude.{◌||◌, ◌&&◌, ◌+◌, ◌⊎◌, not, bytes_eq, if◌then◌else◌}
use Rattle.std.proofs.lemmas.Bool.{true≢false, cases_Bool}
use Rattle.std.proofs.lemmas.Slice.Eq.{bytes_eq-Decides}
use Rattle.clap.specs.Lexer.{long_of, short_of}
use Rattle.sg_words.specs.Words.{Text, is_end_of_options, begins_with_hyphen}
use Rattle.sg_words.specs.Stray.{is_stray, is_known, is_written, has_stray}

pub is_end_of_options-unhyphened : (word : Text) → begins_with_hyphen word ≡ false → is_end_of_options word ≡ false
is_end_of_options-unhyphened [] e = refl
is_end_of_options-unhyphened (byte ∷ bytes) e = rw e refl

pub long_of-unhyphened : (word : Text) → begins_with_hyphen word ≡ false → long_of word ≡ None
long_of-unhyphened [] e = refl
long_of-unhyphened (byte ∷ bytes) e = rw e refl

pub short_of-unhyphened : (word : Text) → begins_with_hyphen word ≡ false → short_of word ≡ None
short_of-unhyphened [] e = refl
short_of-unhyphened (byte ∷ bytes) e = rw e refl

pub begins-end : (word : Text) → is_end_of_options word ≡ true → begins_with_hyphen word ≡ true
begins-end word e = subst (λ (t : Text). begins_with_hyphen t ≡ true) (sym ((bytes_eq-Decides word (codes "--")).0 e)) refl

or_parts : (a b : Bool) → (a || b) ≡ false → (a ≡ false) × (b ≡ false)
or_parts true b h = absurd (true≢false h)
or_parts false b h = (refl, h)

-- a word before `--` that isn't stray, and the words behind it
pub stray_parts : (names : List Text) (word : Text) (words : List Text) → is_end_of_options word ≡ false → has_stray names (word ∷ words) ≡ false
    → (is_stray names word ≡ false) × (has_stray names words ≡ false)
stray_parts names word words e h =
    or_parts (is_stray names word) (has_stray names words) (sym (ap (λ (b : Bool). if b then false else is_stray names word || has_stray names words) e) ∙ h)

-- a word with a hyphen that isn't stray is an option
written_known : (known : Bool) → (true && not known) ≡ false → known ≡ true
written_known true h = refl
written_known false h = absurd (true≢false h)

pub is_written-kept : (names : List Text) (word : Text) → begins_with_hyphen word ≡ true → is_stray names word ≡ false → is_written names word ≡ true
is_written-kept names word e h = written_known (is_written names word) (sym (ap (λ (b : Bool). b && not (is_written names word)) e) ∙ h)

-- ---- a loop over words

module _ {X : Type 0} (names : List Text) (word_of : X → Text) (xs : List X) (i : ℕ) (x : X) (lt : i < length xs) (here : x ≡ slice_index_or xs i x) where
  words_from : map word_of (drop i xs) ≡ word_of x ∷ map word_of (drop (i + 1) xs)
  words_from =
      let split : drop i xs ≡ slice_index_or xs i x ∷ drop (i + 1) xs = rw add-one (drop-cons xs i x lt) in
      ap (map word_of) split ∙ ap (λ (y : X). word_of y ∷ map word_of (drop (i + 1) xs)) (sym here)

  pub has_stray_at-end : is_end_of_options (word_of x) ≡ true → has_stray names (map word_of (drop i xs)) ≡ false
  has_stray_at-end e = ap (has_stray names) words_from ∙ ap (λ (b : Bool). if b then false else is_stray names (word_of x) || has_stray names (map word_of (drop (i + 1) xs))) e

  pub has_stray_at : (b : Bool) → is_end_of_options (word_of x) ≡ false → is_stray names (word_of x) ≡ b
      → has_stray names (map word_of (drop i xs)) ≡ (b || has_stray names (map word_of (drop (i + 1) xs)))
  has_stray_at b e f =
      ap (has_stray names) words_from ∙ ap (λ (c : Bool). if c then false else is_stray names (word_of x) || has_stray names (map word_of (drop (i + 1) xs))) e
      ∙ ap (λ (c : Bool). c || has_stray names (map word_of (drop (i + 1) xs))) f
