-- Reading words is writing them turned round.
use Rattle.std.proofs.Common.{◌≡◌, ◌∙◌, Bool, true, false, List, [], ◌∷◌, ◌++◌, map, Option, Some, None, codes, refl, sym, ap, subst, inl, inr}
use Rattle.std.specs.Prelude.{◌⊎◌, ◌↔◌, ◌&&◌, bytes_eq, find, option_map, option_and_then, if◌then◌else◌, IsNone}
use Rattle.std.specs.List.{list_all}
use Rattle.std.proofs.lemmas.Bool.{cases_Bool, true≢false}
use Rattle.std.proofs.lemmas.Slice.Eq.{bytes_eq-Decides}
use Rattle.clap.specs.Lexer.{long_of}
use Rattle.clap.proofs.WalkLemmas.{find-map}
use Rattle.sg_words.specs.Words.{Text, Piece, positional_word, given_option, is_end_of_options, begins_with_hyphen, has_name, pieces_of, with_piece, option_read, value_read}
use Rattle.sg_words.specs.Writing.{Spells, done, ended, plain, with_apart, with_joined, apart, joined_option}
use Rattle.sg_words.specs.Usages.{Usage, is_option_name, option_names, arguments_of, arguments_given, usage_named, reading_of}
use Rattle.sg_words.specs.Commands.{Asked, Form, Gives, WordsGive, forms, table, asked_by, asked_of, command_given}
use Rattle.sg_words.specs.declared.command.Command.{Command}
use Rattle.sg_words.proofs.Finds.{pieces_of-end, pieces_of-word, pieces_of-option, pieces_of-value, pieces_of-no_value, pieces_of-nothing, pieces_of-waits}
use Rattle.sg_words.proofs.Texts.{name_of_options}
use Rattle.sg_words.proofs.Parts.{long_of-apart, is_end-apart, long_of-joined, is_end-joined, is_apart, is_joined}

both : (a b : Bool) → (a && b) ≡ true → (a ≡ true) × (b ≡ true)
both true b e = (refl, e)
both false b e = absurd (true≢false (sym e))

-- ---- pieces that are read are written

pub record First (piece : Piece) (rest : Option (List Piece)) (pieces : List Piece) : Type 0 where
  pub others : List Piece
  pub read : rest ≡ Some others
  pub all : piece ∷ others ≡ pieces

first_of_all : (piece : Piece) (rest : Option (List Piece)) (pieces : List Piece) → with_piece piece rest ≡ Some pieces → First piece rest pieces
first_of_all piece None pieces e = absurd cc
first_of_all piece (Some others) pieces e = record { others = others; read = refl; all = cc }

nothing_more : (pieces : List Piece) → Some [] ≡ Some pieces → [] ≡ pieces
nothing_more pieces e = cc

same_pieces : (a b : List Piece) → Some a ≡ Some b → a ≡ b
same_pieces a b e = cc

no_pieces : (pieces : List Piece) → None ≡ Some pieces → ⊥
no_pieces pieces e = absurd cc

module _ (names : List Text) where
  record IsWritten (words : List Text) : Type 0 where
    ready : (pieces : List Piece) → pieces_of names words None ≡ Some pieces → Spells names pieces words
    waiting : (name : Text) (pieces : List Piece) → has_name names name ≡ true → pieces_of names words (Some name) ≡ Some pieces → Spells names pieces (apart name ∷ words)

  module _ (word : Text) (words : List Text) (later : IsWritten words) where
    as_word : (pieces : List Piece) → begins_with_hyphen word ≡ false → pieces_of names (word ∷ words) None ≡ Some pieces → Spells names pieces (word ∷ words)
    as_word pieces h e = go (first_of_all (positional_word word) (pieces_of names words None) pieces (sym (pieces_of-word names word words h) ∙ e))
      where
        go : First (positional_word word) (pieces_of names words None) pieces → Spells names pieces (word ∷ words)
        go f = subst (λ (ps : List Piece). Spells names ps (word ∷ words)) f.all (plain word f.others words h (later.ready f.others f.read))

    as_value : (name : Text) (pieces : List Piece) → has_name names name ≡ true → begins_with_hyphen word ≡ false → pieces_of names (word ∷ words) (Some name) ≡ Some pieces
        → Spells names pieces (apart name ∷ word ∷ words)
    as_value name pieces known h e = go (first_of_all (given_option name word) (pieces_of names words None) pieces (sym (pieces_of-value names word words name h) ∙ e))
      where
        go : First (given_option name word) (pieces_of names words None) pieces → Spells names pieces (apart name ∷ word ∷ words)
        go f = subst (λ (ps : List Piece). Spells names ps (apart name ∷ word ∷ words)) f.all (with_apart name word f.others words known h (later.ready f.others f.read))

    as_alone : (name : Text) (pieces : List Piece) → long_of word ≡ Some (name, None) → has_name names name ≡ true → pieces_of names words (Some name) ≡ Some pieces
        → Spells names pieces (word ∷ words)
    as_alone name pieces long known e = subst (λ (w : Text). Spells names pieces (w ∷ words)) (sym (is_apart word name long)) (later.waiting name pieces known e)

    as_joined : (name value : Text) (pieces : List Piece) → long_of word ≡ Some (name, Some value) → has_name names name ≡ true
        → with_piece (given_option name value) (pieces_of names words None) ≡ Some pieces → Spells names pieces (word ∷ words)
    as_joined name value pieces long known e = go (first_of_all (given_option name value) (pieces_of names words None) pieces e)
      where
        go : First (given_option name value) (pieces_of names words None) pieces → Spells names pieces (word ∷ words)
        go f = subst (λ (w : Text). Spells names pieces (w ∷ words)) (sym (is_joined word name value long))
            (subst (λ (ps : List Piece). Spells names ps (joined_option name value ∷ words)) f.all (with_joined name value f.others words known (later.ready f.others f.read)))

    as_known : (name : Text) (value : Option Text) (pieces : List Piece) → long_of word ≡ Some (name, value) → has_name names name ≡ true
        → value_read name value (pieces_of names words) ≡ Some pieces → Spells names pieces (word ∷ words)
    as_known name None pieces long known e = as_alone name pieces long known e
    as_known name (Some value) pieces long known e = as_joined name value pieces long known e

    as_long : (long : Option (Text × Option Text)) (pieces : List Piece) → long_of word ≡ long → option_read names long (pieces_of names words) ≡ Some pieces → Spells names pieces (word ∷ words)
    as_long None pieces is e = absurd (no_pieces pieces e)
    as_long (Some (name, value)) pieces is e = go (cases_Bool (has_name names name))
      where
        go : (has_name names name ≡ true) ⊎ (has_name names name ≡ false) → Spells names pieces (word ∷ words)
        go (inl known) = as_known name value pieces is known (sym (ap (λ (b : Bool). if b then value_read name value (pieces_of names words) else None) known) ∙ e)
        go (inr unknown) = absurd (no_pieces pieces (sym (ap (λ (b : Bool). if b then value_read name value (pieces_of names words) else None) unknown) ∙ e))

    as_end : (pieces : List Piece) → is_end_of_options word ≡ true → pieces_of names (word ∷ words) None ≡ Some pieces → Spells names pieces (word ∷ words)
    as_end pieces e h =
        subst (λ (w : Text). Spells names pieces (w ∷ words)) (sym ((bytes_eq-Decides word (codes "--")).0 e))
        (subst (λ (ps : List Piece). Spells names ps (codes "--" ∷ words)) (same_pieces (map positional_word words) pieces (sym (pieces_of-end names word words e) ∙ h)) (ended words))

    as_any : (pieces : List Piece) → (is_end_of_options word ≡ true) ⊎ (is_end_of_options word ≡ false) → (begins_with_hyphen word ≡ true) ⊎ (begins_with_hyphen word ≡ false)
        → pieces_of names (word ∷ words) None ≡ Some pieces → Spells names pieces (word ∷ words)
    as_any pieces (inl e) hyphen h = as_end pieces e h
    as_any pieces (inr e) (inl f) h = as_long (long_of word) pieces refl (sym (pieces_of-option names word words e f) ∙ h)
    as_any pieces (inr e) (inr f) h = as_word pieces f h

    as_waited : (name : Text) (pieces : List Piece) → has_name names name ≡ true → (begins_with_hyphen word ≡ true) ⊎ (begins_with_hyphen word ≡ false)
        → pieces_of names (word ∷ words) (Some name) ≡ Some pieces → Spells names pieces (apart name ∷ word ∷ words)
    as_waited name pieces known (inl f) h = absurd (no_pieces pieces (sym (pieces_of-no_value names word words name f) ∙ h))
    as_waited name pieces known (inr f) h = as_value name pieces known f h

  are_written : (words : List Text) → IsWritten words
  are_written [] = record {
    ready = λ pieces e. subst (λ (ps : List Piece). Spells names ps []) (nothing_more pieces (sym (pieces_of-nothing names) ∙ e)) done;
    waiting = λ name pieces known e. absurd (no_pieces pieces (sym (pieces_of-waits names name) ∙ e));
  }
  are_written (word ∷ words) =
      let later = are_written words in
      record {
        ready = λ pieces e. as_any word words later pieces (cases_Bool (is_end_of_options word)) (cases_Bool (begins_with_hyphen word)) e;
        waiting = λ name pieces known e. as_waited word words later name pieces known (cases_Bool (begins_with_hyphen word)) e;
      }

pub spelled : (names : List Text) (words : List Text) (pieces : List Piece) → pieces_of names words None ≡ Some pieces → Spells names pieces words
spelled names words pieces e = (are_written names words).ready pieces e

-- ---- pieces that are written are read

known_read : (names : List Text) (name : Text) (value : Option Text) (rest : Option Text → Option (List Piece)) → has_name names name ≡ true
    → option_read names (Some (name, value)) rest ≡ value_read name value rest
known_read names name value rest known = rw known refl

pub read : (names : List Text) (pieces : List Piece) (words : List Text) → list_all is_option_name names ≡ true → Spells names pieces words → pieces_of names words None ≡ Some pieces
read names _ _ all done = pieces_of-nothing names
read names _ _ all (ended words) = pieces_of-end names (codes "--") words refl
read names _ _ all (plain word pieces words h s) = pieces_of-word names word words h ∙ ap (with_piece (positional_word word)) (read names pieces words all s)
read names _ _ all (with_apart name value pieces words known h s) =
    let good = name_of_options names name all known in
    pieces_of-option names (apart name) (value ∷ words) (is_end-apart name good) refl
    ∙ ap (λ (long : Option (Text × Option Text)). option_read names long (pieces_of names (value ∷ words))) (long_of-apart name good)
    ∙ known_read names name None (pieces_of names (value ∷ words)) known
    ∙ pieces_of-value names value words name h ∙ ap (with_piece (given_option name value)) (read names pieces words all s)
read names _ _ all (with_joined name value pieces words known s) =
    let good = name_of_options names name all known in
    pieces_of-option names (joined_option name value) words (is_end-joined name value good) refl
    ∙ ap (λ (long : Option (Text × Option Text)). option_read names long (pieces_of names words)) (long_of-joined name value good)
    ∙ known_read names name (Some value) (pieces_of names words) known
    ∙ ap (with_piece (given_option name value)) (read names pieces words all s)

-- ---- commands

abbrev form_named : Text → Option Form
form_named name = find (λ (form : Form). bytes_eq form.usage.name name) forms

usage_of_form : (name : Text) → usage_named table name ≡ option_map (λ (form : Form). form.usage) (form_named name)
usage_of_form name = sym (find-map (λ (usage : Usage). bytes_eq usage.name name) (λ (form : Form). form.usage) forms)

abbrev asked_with : Text → List Text → Option Usage → Option Asked
asked_with name others usage =
    option_and_then (λ (given : Text × List Text). asked_by given.0 given.1)
    (option_and_then (λ (u : Usage). option_map (λ arguments. (u.name, arguments)) (arguments_given u others)) usage)

asked_with-Some : (name : Text) (others : List Text) (usage : Usage) → asked_with name others (Some usage) ≡ option_and_then (asked_by usage.name) (arguments_given usage others)
asked_with-Some name others usage = go (arguments_given usage others)
  where
    go : (given : Option (List Text))
        → option_and_then (λ (given : Text × List Text). asked_by given.0 given.1) (option_map (λ arguments. (usage.name, arguments)) given) ≡ option_and_then (asked_by usage.name) given
    go None = refl
    go (Some arguments) = refl

command_given-named : (name : Text) (others : List Text) (form : Form) → form_named name ≡ Some form
    → command_given (name ∷ others) ≡ option_and_then (asked_by form.usage.name) (arguments_given form.usage others)
command_given-named name others form e =
    ap (asked_with name others) (usage_of_form name ∙ ap (option_map (λ (f : Form). f.usage)) e) ∙ asked_with-Some name others form.usage

command_given-unnamed : (name : Text) (others : List Text) → form_named name ≡ None → command_given (name ∷ others) ≡ None
command_given-unnamed name others e = ap (asked_with name others) (usage_of_form name ∙ ap (option_map (λ (f : Form). f.usage)) e)

-- the row that is found has the name
found_name : (fs : List Form) (name : Text) (form : Form) → find (λ (f : Form). bytes_eq f.usage.name name) fs ≡ Some form → bytes_eq form.usage.name name ≡ true
found_name [] name form e = absurd cc
found_name (first ∷ fs) name form e = go (cases_Bool (bytes_eq first.usage.name name)) (λ later. found_name fs name form later)
  where
    go : (bytes_eq first.usage.name name ≡ true) ⊎ (bytes_eq first.usage.name name ≡ false)
        → (find (λ (f : Form). bytes_eq f.usage.name name) fs ≡ Some form → bytes_eq form.usage.name name ≡ true) → bytes_eq form.usage.name name ≡ true
    go (inl h) later =
        let found : Some first ≡ Some form = sym (ap (λ (b : Bool). if b then Some first else find (λ (f : Form). bytes_eq f.usage.name name) fs) h) ∙ e in
        let same : first ≡ form = cc in
        subst (λ (f : Form). bytes_eq f.usage.name name ≡ true) same h
    go (inr h) later = later (sym (ap (λ (b : Bool). if b then Some first else find (λ (f : Form). bytes_eq f.usage.name name) fs) h) ∙ e)

-- each option of the table has a name that can be written
abbrev has_names : Form → Bool
has_names form = list_all is_option_name (option_names form.usage)

found_names : (fs : List Form) (name : Text) (form : Form) → list_all has_names fs ≡ true → find (λ (f : Form). bytes_eq f.usage.name name) fs ≡ Some form → has_names form ≡ true
found_names [] name form all e = absurd cc
found_names (first ∷ fs) name form all e =
    let parts = both (has_names first) (list_all has_names fs) all in
    go (cases_Bool (bytes_eq first.usage.name name)) parts.0 (λ later. found_names fs name form parts.1 later)
  where
    go : (bytes_eq first.usage.name name ≡ true) ⊎ (bytes_eq first.usage.name name ≡ false) → has_names first ≡ true
        → (find (λ (f : Form). bytes_eq f.usage.name name) fs ≡ Some form → has_names form ≡ true) → has_names form ≡ true
    go (inl h) good later =
        let found : Some first ≡ Some form = sym (ap (λ (b : Bool). if b then Some first else find (λ (f : Form). bytes_eq f.usage.name name) fs) h) ∙ e in
        let same : first ≡ form = cc in
        subst (λ (f : Form). has_names f ≡ true) same good
    go (inr h) good later = later (sym (ap (λ (b : Bool). if b then Some first else find (λ (f : Form). bytes_eq f.usage.name name) fs) h) ∙ e)

table_names : (name : Text) (form : Form) → form_named name ≡ Some form → list_all is_option_name (option_names form.usage) ≡ true
table_names name form e = found_names forms name form refl e

asked_by-form : (name : Text) (form : Form) (arguments : List Text) → form_named name ≡ Some form → asked_by name arguments ≡ form.asked arguments
asked_by-form name form arguments e = ap (option_and_then (λ (f : Form). f.asked arguments)) e

gives_by : (name : Text) (others : List Text) (asked : Asked) (form : Form) → form_named name ≡ Some form → (pieces : Option (List Piece)) → pieces_of (option_names form.usage) others None ≡ pieces
    → (given : Option (List Text)) → option_and_then (arguments_of form.usage) pieces ≡ given → option_and_then (asked_by form.usage.name) given ≡ Some asked → Gives (name ∷ others) asked
gives_by name others asked form found None pieces_are None given_is e = absurd cc
gives_by name others asked form found None pieces_are (Some arguments) given_is e = absurd cc
gives_by name others asked form found (Some pieces) pieces_are None given_is e = absurd cc
gives_by name others asked form found (Some pieces) pieces_are (Some arguments) given_is e =
    let same : form.usage.name ≡ name = (bytes_eq-Decides form.usage.name name).0 (found_name forms name form found) in
    let listed : form_named form.usage.name ≡ Some form = ap form_named same ∙ found in
    record {
      form = form;
      others = others;
      pieces = pieces;
      arguments = arguments;
      listed = listed;
      named = ap (λ (n : Text). n ∷ others) (sym same);
      spelled = spelled (option_names form.usage) others pieces pieces_are;
      given = given_is;
      taken = sym (asked_by-form form.usage.name form arguments listed) ∙ e;
    }

read_written : (words : List Text) (asked : Asked) → command_given words ≡ Some asked → Gives words asked
read_written [] asked e = absurd cc
read_written (name ∷ others) asked e = go (form_named name) refl
  where
    go : (form : Option Form) → form_named name ≡ form → Gives (name ∷ others) asked
    go None found = absurd (let none = command_given-unnamed name others found in cc)
    go (Some form) found =
        gives_by name others asked form found (pieces_of (option_names form.usage) others None) refl (arguments_given form.usage others) refl
        (sym (command_given-named name others form found) ∙ e)

written_read : (words : List Text) (asked : Asked) → Gives words asked → command_given words ≡ Some asked
written_read words asked g =
    ap command_given g.named ∙ command_given-named g.form.usage.name g.others g.form g.listed
    ∙ ap (λ (pieces : Option (List Piece)). option_and_then (asked_by g.form.usage.name) (option_and_then (arguments_of g.form.usage) pieces))
    (read (option_names g.form.usage) g.pieces g.others (table_names g.form.usage.name g.form g.listed) g.spelled)
    ∙ ap (option_and_then (asked_by g.form.usage.name)) g.given ∙ asked_by-form g.form.usage.name g.form g.arguments g.listed ∙ g.taken

pub words_give : WordsGive
words_give words asked = (read_written words asked, written_read words asked)

-- what is read is what is written
pub given_exactly : (given : Option Asked) (words : List Text) → given ≡ command_given words → (asked : Asked) → (given ≡ Some asked) ↔ Gives words asked
given_exactly given words e asked = ((λ is. read_written words asked (sym e ∙ is)), (λ gives. e ∙ written_read words asked gives))

-- nothing is read exactly where nothing is written
pub none_exactly : (command : Option Command) (words : List Text) → option_map asked_of command ≡ command_given words → IsNone command ↔ ((asked : Asked) → ¬ Gives words asked)
none_exactly None words e = ((λ _ asked gives. let is = written_read words asked gives in cc), (λ _. refl))
none_exactly (Some command) words e = ((λ none. absurd (true≢false none)), (λ never. absurd (never (asked_of command) (read_written words (asked_of command) (sym e)))))
