-- The words of a call, as the code holds them: the name of a row, and the words behind it.
use Rattle.std.proofs.Common.{◌≡◌, ◌∙◌, ℕ, ◌≤◌, Bool, true, false, List, [], ◌∷◌, length, ◌-◌, map, take, drop, length-drop, slice_index_or, string_bytes, Option, Some, None, refl, sym, ap, subst, inl, inr, arith}
use Rattle.std.specs.Prelude.{◌⊎◌, ◌&&◌, String, bytes_eq, find, option_map, option_and_then, if◌then◌else◌}
use Rattle.std.specs.List.{list_all}
use Rattle.std.specs.declared.alloc.Global.{Global}
use Rattle.std.proofs.lemmas.List.{take_all}
use Rattle.std.proofs.lemmas.Bool.{cases_Bool, true≢false}
use Rattle.std.proofs.lemmas.Slice.Eq.{bytes_eq-Decides}
use Rattle.sg_words.specs.Words.{Text}
use Rattle.sg_words.specs.Line.{NamesFirst}
use Rattle.sg_words.specs.Usages.{Usage, is_option_name, is_usage_table, option_names, arguments_given, usage_named, reading_of}

both : (a b : Bool) → (a && b) ≡ true → (a ≡ true) × (b ≡ true)
both true b e = (refl, e)
both false b e = absurd (true≢false (sym e))

-- a row alone is a table where its options have names
pub names_of_row : (usage : Usage) → is_usage_table (usage ∷ []) ≡ true → list_all is_option_name (option_names usage) ≡ true
names_of_row usage table = (both (list_all is_option_name (option_names usage)) true table).0

one_row : (b : Bool) → b ≡ true → (b && true) ≡ true
one_row true e = refl
one_row false e = e

-- the row that is found has the name, and is a table alone
pub record IsRow (name : Text) (usage : Usage) : Type 0 where
  pub named : usage.name ≡ name
  pub table : is_usage_table (usage ∷ []) ≡ true

row_in : (usages : List Usage) (name : Text) (usage : Usage) → is_usage_table usages ≡ true → usage_named usages name ≡ Some usage → IsRow name usage
row_in [] name usage table e = absurd cc
row_in (first ∷ usages) name usage table e =
    let parts = both (list_all is_option_name (option_names first)) (is_usage_table usages) table in
    go (cases_Bool (bytes_eq first.name name)) parts.0 (λ later. row_in usages name usage parts.1 later)
  where
    go : (bytes_eq first.name name ≡ true) ⊎ (bytes_eq first.name name ≡ false) → list_all is_option_name (option_names first) ≡ true
        → (usage_named usages name ≡ Some usage → IsRow name usage) → IsRow name usage
    go (inl h) good later =
        let found : Some first ≡ Some usage = sym (ap (λ (b : Bool). if b then Some first else usage_named usages name) h) ∙ e in
        let same : first ≡ usage = cc in
        subst (λ (u : Usage). IsRow name u) same (record { named = (bytes_eq-Decides first.name name).0 h; table = one_row (list_all is_option_name (option_names first)) good })
    go (inr h) good later = later (sym (ap (λ (b : Bool). if b then Some first else usage_named usages name) h) ∙ e)

pub row_found : (usages : List Usage) (name : Text) (usage : Usage) → is_usage_table usages ≡ true → Some usage ≡ usage_named usages name → IsRow name usage
row_found usages name usage table e = row_in usages name usage table (sym e)

-- ---- the first word

pub names_first : (name : Text) (words : List (String Global)) → NamesFirst name (map string_bytes words) → map string_bytes words ≡ name ∷ map string_bytes (drop 1 words)
names_first name [] named = absurd named
names_first name (word ∷ words) named = ap (λ (n : Text). n ∷ map string_bytes words) named

pub first_named : (name : Text) (words : List (String Global)) (word : String Global) → 1 ≤ length words → word ≡ slice_index_or words 0 word → string_bytes word ≡ name
    → NamesFirst name (map string_bytes words)
first_named name [] word some is named = absurd (omega (arith, some))
first_named name (first ∷ words) word some is named = ap string_bytes (sym is) ∙ named

-- the words behind it, as a slice
pub tail_slice : {X : Type 0} (words : List X) → take (length words - 1) (drop 1 words) ≡ drop 1 words
tail_slice words = take_all (length words - 1) (drop 1 words) (omega (arith, length-drop 1 words))

-- ---- what they give

pub reading_of-row : (usages : List Usage) (name : Text) (usage : Usage) (words call : List Text) → call ≡ name ∷ words → Some usage ≡ usage_named usages name
    → reading_of usages call ≡ option_map (λ arguments. (usage.name, arguments)) (arguments_given usage words)
reading_of-row usages name usage words call call_is e =
    ap (reading_of usages) call_is
    ∙ ap (option_and_then (λ (u : Usage). option_map (λ arguments. (u.name, arguments)) (arguments_given u words))) (sym e)

pub reading_of-no_row : (usages : List Usage) (name : Text) (words call : List Text) → call ≡ name ∷ words → None ≡ usage_named usages name → None ≡ reading_of usages call
reading_of-no_row usages name words call call_is e =
    ap (option_and_then (λ (u : Usage). option_map (λ arguments. (u.name, arguments)) (arguments_given u words))) e ∙ sym (ap (reading_of usages) call_is)
