-- The texts under an id in the rows of pieces: the positional words, or the values of an option.
use Rattle.std.proofs.Common.{◌≡◌, ◌∙◌, Bool, true, false, List, [], ◌∷◌, ◌++◌, map, Option, Some, None, cond, refl, sym, ap, ap₂, subst, append-nil, append_assoc, inl, inr}
use Rattle.std.specs.Prelude.{fold, ◌⊎◌, ◌&&◌, ◌||◌, bytes_eq, option_map, option_and_then, unwrap_or, if◌then◌else◌}
use Rattle.std.specs.List.{list_all}
use Rattle.std.proofs.lemmas.Bool.{cases_Bool, true≢false}
use Rattle.std.proofs.lemmas.Slice.Eq.{bytes_eq-Decides}
use Rattle.clap.specs.Walk.{Row, at_row, more_values}
use Rattle.clap.specs.declared.builder.value_parser.Reading.TheVariants.{AsWritten}
use Rattle.clap.specs.declared.parser.matches.ValueSource.TheVariants.{CommandLine}
use Rattle.sg_words.specs.Words.{Text, Piece, positional_word, given_option, has_name, positional_words, values_of}
use Rattle.sg_words.specs.Usages.{Setting, Usage, option_names, option_value, is_option_name, values_by, arguments_by, arguments_of, are_of}
use Rattle.sg_words.specs.Line.{words_id, texts_in, arguments_in}
use Rattle.sg_words.proofs.Turns.{with_text}
use Rattle.sg_words.proofs.Finds.{with_row, AreApart}

-- ---- names of options

same_text : (a b : Text) → bytes_eq a b ≡ true → a ≡ b
same_text a b = (bytes_eq-Decides a b).0

pub other_way : (a b : Text) → bytes_eq a b ≡ false → bytes_eq b a ≡ false
other_way a b e = go (cases_Bool (bytes_eq b a))
  where
    go : (bytes_eq b a ≡ true) ⊎ (bytes_eq b a ≡ false) → bytes_eq b a ≡ false
    go (inl f) = absurd (true≢false (sym ((bytes_eq-Decides a b).1 (sym (same_text b a f))) ∙ e))
    go (inr f) = f

-- an option's name isn't the id of the positional words
apart_name : (name : Text) → is_option_name name ≡ true → bytes_eq words_id name ≡ false
apart_name name e = go (cases_Bool (bytes_eq words_id name))
  where
    go : (bytes_eq words_id name ≡ true) ⊎ (bytes_eq words_id name ≡ false) → bytes_eq words_id name ≡ false
    go (inl f) = absurd (true≢false (sym e ∙ ap is_option_name (sym (same_text words_id name f))))
    go (inr f) = f

both : (a b : Bool) → (a && b) ≡ true → (a ≡ true) × (b ≡ true)
both true b e = (refl, e)
both false b e = absurd (true≢false (sym e))

pub name_of_options : (names : List Text) (name : Text) → list_all is_option_name names ≡ true → has_name names name ≡ true → is_option_name name ≡ true
name_of_options [] name all known = absurd cc
name_of_options (first ∷ names) name all known =
    let parts = both (is_option_name first) (list_all is_option_name names) all in
    go (cases_Bool (bytes_eq first name)) parts.0 (λ later. name_of_options names name parts.1 later)
  where
    go : (bytes_eq first name ≡ true) ⊎ (bytes_eq first name ≡ false) → is_option_name first ≡ true
        → (has_name names name ≡ true → is_option_name name ≡ true) → is_option_name name ≡ true
    go (inl e) good later = subst (λ (t : Text). is_option_name t ≡ true) (same_text first name e) good
    go (inr e) good later = later (sym (ap (λ b. b || has_name names name) e) ∙ known)

pub apart_names : (names : List Text) → list_all is_option_name names ≡ true → (name : Text) → has_name names name ≡ true → bytes_eq words_id name ≡ false
apart_names names all name known = apart_name name (name_of_options names name all known)

-- ---- one more text

abbrev row_with : Text → Text → Row
row_with id text = record { id = id; values = text ∷ []; count = None; source = Some CommandLine; reading = AsWritten }

texts_in-cons : (id : Text) (r : Row) (rows : List Row) → texts_in id (r ∷ rows) ≡ (if bytes_eq r.id id then r.values else texts_in id rows)
texts_in-cons id r rows = go (cases_Bool (bytes_eq r.id id))
  where
    go : (bytes_eq r.id id ≡ true) ⊎ (bytes_eq r.id id ≡ false) → texts_in id (r ∷ rows) ≡ (if bytes_eq r.id id then r.values else texts_in id rows)
    go (inl e) = rw e refl
    go (inr e) = rw e refl

-- the same text, or another one
texts_in-same : (id text : Text) (rows : List Row) → texts_in id (with_text id text rows) ≡ texts_in id rows ++ text ∷ []
texts_in-same id text [] = texts_in-cons id (row_with id text) [] ∙ ap (λ (b : Bool). if b then text ∷ [] else []) ((bytes_eq-Decides id id).1 refl)
texts_in-same id text (r ∷ rows) = go (cases_Bool (bytes_eq r.id id)) (texts_in-same id text rows)
  where
    go : (bytes_eq r.id id ≡ true) ⊎ (bytes_eq r.id id ≡ false) → texts_in id (with_text id text rows) ≡ texts_in id rows ++ text ∷ []
        → texts_in id (with_text id text (r ∷ rows)) ≡ texts_in id (r ∷ rows) ++ text ∷ []
    go (inl e) later = rw (e, e) refl
    go (inr e) later = rw (e, e) later

texts_in-other : (id other text : Text) (rows : List Row) → bytes_eq other id ≡ false → texts_in id (with_text other text rows) ≡ texts_in id rows
texts_in-other id other text [] apart = texts_in-cons id (row_with other text) [] ∙ ap (λ (b : Bool). if b then text ∷ [] else []) apart
texts_in-other id other text (r ∷ rows) apart = go (cases_Bool (bytes_eq r.id other)) (cases_Bool (bytes_eq r.id id)) (texts_in-other id other text rows apart)
  where
    go : (bytes_eq r.id other ≡ true) ⊎ (bytes_eq r.id other ≡ false) → (bytes_eq r.id id ≡ true) ⊎ (bytes_eq r.id id ≡ false)
        → texts_in id (with_text other text rows) ≡ texts_in id rows → texts_in id (with_text other text (r ∷ rows)) ≡ texts_in id (r ∷ rows)
    go (inl e) (inl f) later = absurd (true≢false (sym f ∙ ap (λ (t : Text). bytes_eq t id) (same_text r.id other e) ∙ apart))
    go (inl e) (inr f) later = rw (e, f) refl
    go (inr e) (inl f) later = rw (e, f) refl
    go (inr e) (inr f) later = rw (e, f) later

-- ---- the texts of pieces

pub texts_in-words : (pieces : List Piece) (rows : List Row) → AreApart pieces → texts_in words_id (fold with_row rows pieces) ≡ texts_in words_id rows ++ positional_words pieces
texts_in-words [] rows apart = sym (append-nil (texts_in words_id rows))
texts_in-words (positional_word word ∷ pieces) rows apart =
    texts_in-words pieces (with_text words_id word rows) apart
    ∙ ap (λ (ts : List Text). ts ++ positional_words pieces) (texts_in-same words_id word rows) ∙ append_assoc (texts_in words_id rows) (word ∷ []) (positional_words pieces)
texts_in-words (given_option name value ∷ pieces) rows apart =
    texts_in-words pieces (with_text name value rows) apart.1
    ∙ ap (λ (ts : List Text). ts ++ positional_words pieces) (texts_in-other words_id name value rows (other_way words_id name apart.0))

pub texts_in-values : (name : Text) (pieces : List Piece) (rows : List Row) → bytes_eq words_id name ≡ false → texts_in name (fold with_row rows pieces) ≡ texts_in name rows ++ values_of name pieces
texts_in-values name [] rows apart = sym (append-nil (texts_in name rows))
texts_in-values name (positional_word word ∷ pieces) rows apart =
    texts_in-values name pieces (with_text words_id word rows) apart
    ∙ ap (λ (ts : List Text). ts ++ values_of name pieces) (texts_in-other name words_id word rows apart)
texts_in-values name (given_option other value ∷ pieces) rows apart =
    texts_in-values name pieces (with_text other value rows) apart ∙ go (cases_Bool (bytes_eq other name))
  where
    go : (bytes_eq other name ≡ true) ⊎ (bytes_eq other name ≡ false)
        → texts_in name (with_text other value rows) ++ values_of name pieces ≡ texts_in name rows ++ values_of name (given_option other value ∷ pieces)
    go (inl e) =
        let same : texts_in name (with_text other value rows) ≡ texts_in name rows ++ value ∷ [] =
        subst (λ (t : Text). texts_in name (with_text t value rows) ≡ texts_in name rows ++ value ∷ []) (sym (same_text other name e)) (texts_in-same name value rows) in
        ap (λ (ts : List Text). ts ++ values_of name pieces) same ∙ append_assoc (texts_in name rows) (value ∷ []) (values_of name pieces) ∙ rw e refl
    go (inr e) = ap (λ (ts : List Text). ts ++ values_of name pieces) (texts_in-other name other value rows e) ∙ rw e refl

-- ---- the arguments

values_by-same : (settings : List Setting) (f g : Text → List Text) → list_all is_option_name (map (λ (s : Setting). s.name) settings) ≡ true
    → ((name : Text) → bytes_eq words_id name ≡ false → f name ≡ g name) → values_by settings f ≡ values_by settings g
values_by-same [] f g all same = refl
values_by-same (s ∷ settings) f g all same =
    let parts = both (is_option_name s.name) (list_all is_option_name (map (λ (s : Setting). s.name) settings)) all in
    ap₂ (λ (ts : List Text) (rest : Option (List Text)). option_and_then (λ value. option_map (λ values. value ∷ values) rest) (option_value s ts))
    (same s.name (apart_name s.name parts.0)) (values_by-same settings f g parts.1 same)

arguments_by-same : (usage : Usage) (words others : List Text) (f g : Text → List Text) → words ≡ others → values_by usage.options f ≡ values_by usage.options g
    → arguments_by usage words f ≡ arguments_by usage others g
arguments_by-same usage words others f g e h =
    ap₂ (λ (ws : List Text) (vs : Option (List Text)). if are_of usage.positionals ws then option_map (λ values. ws ++ values) vs else None) e h

-- the arguments in the rows of pieces are those of the pieces
pub arguments_in-pieces : (usage : Usage) (pieces : List Piece) → list_all is_option_name (option_names usage) ≡ true → AreApart pieces
    → arguments_in usage (fold with_row [] pieces) ≡ arguments_of usage pieces
arguments_in-pieces usage pieces all apart =
    arguments_by-same usage (texts_in words_id (fold with_row [] pieces)) (positional_words pieces) (λ name. texts_in name (fold with_row [] pieces)) (λ name. values_of name pieces)
    (texts_in-words pieces [] apart)
    (values_by-same usage.options (λ name. texts_in name (fold with_row [] pieces)) (λ name. values_of name pieces) all (λ name other. texts_in-values name pieces [] other))
