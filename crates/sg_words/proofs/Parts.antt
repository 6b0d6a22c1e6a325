-- A word that is an option: its name before the first `=`, and its value behind it.
use Rattle.std.proofs.Common.{◌≡◌, ◌∙◌, ℕ, Bool, true, false, List, [], ◌∷◌, ◌++◌, length, Option, Some, None, codes, refl, sym, ap, ap₂, inl, inr, eqb-true}
use Rattle.std.specs.Prelude.{◌⊎◌, ◌&&◌, ◌==◌, not, option_and_then, if◌then◌else◌}
use Rattle.std.specs.List.{list_any, before_first, after_first}
use Rattle.std.proofs.lemmas.Bool.{cases_Bool, true≢false}
use Rattle.clap.specs.Lexer.{long_of, long_of_rest, strip_byte, name_and_value, has_byte}
use Rattle.sg_words.specs.Words.{Text, is_end_of_options}
use Rattle.sg_words.specs.Usages.{is_option_name}
use Rattle.sg_words.specs.Writing.{apart, joined_option}
use Rattle.sg_words.proofs.Splits.{before_first-none, before_first-joined, after_first-joined, has_sign-joined, split_at_sign}

abbrev is_equals : ℕ → Bool
is_equals code = code == 61

-- ---- names and values

name_and_value-alone : (text : Text) → has_byte 61 text ≡ false → name_and_value text ≡ (text, None)
name_and_value-alone text none =
    ap₂ (λ (name : Text) (b : Bool). (name, if b then Some (after_first is_equals text) else None)) (before_first-none 61 text none) none

three : (name value other : Text) (a : Text) (b : Bool) (c : Text) → a ≡ name → b ≡ true → c ≡ value → (let p : Text × Option Text = (a, if b then Some c else None) in p) ≡ (name, Some value)
three name value other a b c e f g = rw (e, f, g) refl

name_and_value-joined : (name value : Text) → has_byte 61 name ≡ false → name_and_value (name ++ (codes "=" ++ value)) ≡ (name, Some value)
name_and_value-joined name value none =
    three name value [] (before_first is_equals (name ++ (codes "=" ++ value))) (has_byte 61 (name ++ (codes "=" ++ value))) (after_first is_equals (name ++ (codes "=" ++ value)))
    (before_first-joined 61 name value none) (has_sign-joined 61 name value) (after_first-joined 61 name value none)

-- ---- names of options

not_true : (b : Bool) → not b ≡ true → b ≡ false
not_true true e = absurd (true≢false (sym e))
not_true false e = refl

both : (a b : Bool) → (a && b) ≡ true → (a ≡ true) × (b ≡ true)
both true b e = (refl, e)
both false b e = absurd (true≢false (sym e))

no_equals : (name : Text) → is_option_name name ≡ true → has_byte 61 name ≡ false
no_equals name e = not_true (has_byte 61 name) (both (not (length name == 0)) (not (has_byte 61 name)) e).1

-- ---- written alone

pub long_of-apart : (name : Text) → is_option_name name ≡ true → long_of (apart name) ≡ Some (name, None)
long_of-apart [] e = absurd (true≢false (sym e))
long_of-apart (code ∷ name) e = ap Some (name_and_value-alone (code ∷ name) (no_equals (code ∷ name) e))

pub is_end-apart : (name : Text) → is_option_name name ≡ true → is_end_of_options (apart name) ≡ false
is_end-apart [] e = absurd (true≢false (sym e))
is_end-apart (code ∷ name) e = refl

-- ---- written with its value

pub long_of-joined : (name value : Text) → is_option_name name ≡ true → long_of (joined_option name value) ≡ Some (name, Some value)
long_of-joined [] value e = absurd (true≢false (sym e))
long_of-joined (code ∷ name) value e = ap Some (name_and_value-joined (code ∷ name) value (no_equals (code ∷ name) e))

pub is_end-joined : (name value : Text) → is_option_name name ≡ true → is_end_of_options (joined_option name value) ≡ false
is_end-joined [] value e = absurd (true≢false (sym e))
is_end-joined (code ∷ name) value e = refl

-- ---- and back

strip_byte-is : (c : ℕ) (text rest : Text) → strip_byte c text ≡ Some rest → text ≡ c ∷ rest
strip_byte-is c [] rest e = absurd cc
strip_byte-is c (x ∷ xs) rest e = go (cases_Bool (x == c))
  where
    go : (x == c ≡ true) ⊎ (x == c ≡ false) → x ∷ xs ≡ c ∷ rest
    go (inl same) =
        let found : Some xs ≡ Some rest = sym (ap (λ (b : Bool). if b then Some xs else None) same) ∙ e in
        let tail : xs ≡ rest = cc in
        ap₂ (λ (a : ℕ) (t : Text). a ∷ t) (eqb-true x c same) tail
    go (inr other) = absurd (let bad : None ≡ Some rest = sym (ap (λ (b : Bool). if b then Some xs else None) other) ∙ e in cc)

-- the text behind the hyphens, and its parts
pub record Behind (word : Text) (parts : Text × Option Text) : Type 0 where
  pub text : Text
  pub written : word ≡ codes "--" ++ text
  pub split_as : name_and_value text ≡ parts

rest_parts : (text : Text) (parts : Text × Option Text) → long_of_rest text ≡ Some parts → name_and_value text ≡ parts
rest_parts [] parts e = absurd cc
rest_parts (x ∷ xs) parts e = cc

behind_two : (word one : Text) (parts : Text × Option Text) → word ≡ 45 ∷ one → (second : Option Text) → strip_byte 45 one ≡ second → option_and_then long_of_rest second ≡ Some parts → Behind word parts
behind_two word one parts is None e h = absurd cc
behind_two word one parts is (Some text) e h = record {
  text = text;
  written = is ∙ ap (λ (t : Text). 45 ∷ t) (strip_byte-is 45 one text e);
  split_as = rest_parts text parts h;
}

behind_one : (word : Text) (parts : Text × Option Text) (first : Option Text) → strip_byte 45 word ≡ first → option_and_then long_of_rest (option_and_then (strip_byte 45) first) ≡ Some parts → Behind word parts
behind_one word parts None e h = absurd cc
behind_one word parts (Some one) e h = behind_two word one parts (strip_byte-is 45 word one e) (strip_byte 45 one) refl h

behind : (word : Text) (parts : Text × Option Text) → long_of word ≡ Some parts → Behind word parts
behind word parts h = behind_one word parts (strip_byte 45 word) refl h

pub is_apart : (word name : Text) → long_of word ≡ Some (name, None) → word ≡ apart name
is_apart word name h = go (behind word (name, None) h)
  where
    go : Behind word (name, None) → word ≡ apart name
    go b = b.written ∙ ap (λ (t : Text). codes "--" ++ t) (alone (cases_Bool (has_byte 61 b.text)))
      where
        alone : (has_byte 61 b.text ≡ true) ⊎ (has_byte 61 b.text ≡ false) → b.text ≡ name
        alone (inl has) = absurd (let bad : Some (after_first is_equals b.text) ≡ None =
            sym (ap (λ (c : Bool). if c then Some (after_first is_equals b.text) else None) has) ∙ ap (λ (p : Text × Option Text). p.1) b.split_as in cc)
        alone (inr none) = sym (before_first-none 61 b.text none) ∙ ap (λ (p : Text × Option Text). p.0) b.split_as

pub is_joined : (word name value : Text) → long_of word ≡ Some (name, Some value) → word ≡ joined_option name value
is_joined word name value h = go (behind word (name, Some value) h)
  where
    go : Behind word (name, Some value) → word ≡ joined_option name value
    go b = b.written ∙ ap (λ (t : Text). codes "--" ++ t) (with_value (cases_Bool (has_byte 61 b.text)))
      where
        with_value : (has_byte 61 b.text ≡ true) ⊎ (has_byte 61 b.text ≡ false) → b.text ≡ name ++ (codes "=" ++ value)
        with_value (inl has) =
            let behind_it : Some (after_first is_equals b.text) ≡ Some value =
            sym (ap (λ (c : Bool). if c then Some (after_first is_equals b.text) else None) has) ∙ ap (λ (p : Text × Option Text). p.1) b.split_as in
            let value_is : after_first is_equals b.text ≡ value = cc in
            split_at_sign 61 b.text has ∙ ap₂ (λ (before after : Text). before ++ (codes "=" ++ after)) (ap (λ (p : Text × Option Text). p.0) b.split_as) value_is
        with_value (inr none) = absurd (let bad : None ≡ Some value =
            sym (ap (λ (c : Bool). if c then Some (after_first is_equals b.text) else None) none) ∙ ap (λ (p : Text × Option Text). p.1) b.split_as in cc)
