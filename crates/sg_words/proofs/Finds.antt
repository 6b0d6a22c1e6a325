-- clap finds the pieces of the words of a command, and has a fault where they can't be read.
use Rattle.std.proofs.Common.{◌≡◌, ◌∙◌, Bool, true, false, List, [], ◌∷◌, map, Option, Some, None, refl, sym, ap, subst, inl, inr}
use Rattle.std.specs.Prelude.{fold, ◌⊎◌, ◌&&◌, ◌||◌, not, ⊤, bytes_eq, if◌then◌else◌}
use Rattle.std.proofs.lemmas.Bool.{cases_Bool, true≢false}
use Rattle.clap.specs.Walk.{Held, Row, Walk, Waiting, idle, option, positional, finished, with_default}
use Rattle.clap.specs.Lexer.{long_of}
use Rattle.clap.specs.Simple.{Shape}
use Rattle.clap.specs.Kinds.{Kinds}
use Rattle.clap.specs.declared.error.kind.ErrorKind.{ErrorKind}
use Rattle.clap.specs.declared.error.kind.ErrorKind.TheVariants.{InvalidValue}
use Rattle.sg_words.specs.Words.{Text, Piece, positional_word, given_option, is_end_of_options, begins_with_hyphen, has_name, pieces_of, with_piece, option_read, value_read}
use Rattle.sg_words.specs.Stray.{is_known, is_written, is_stray, has_stray}
use Rattle.sg_words.specs.Line.{words_id}
use Rattle.sg_words.proofs.Marks.{begins-end, is_end_of_options-unhyphened, stray_parts, is_written-kept}
use Rattle.sg_words.proofs.Rules.{rules_for, leaf}
use Rattle.sg_words.proofs.Rest.{Moves, rest_fault, rest_rows, rest_fault-moves, rest_rows-moves, rest_fault-refused, rest_fault-end, end_fault-none, end_fault-some, rows_finished}
use Rattle.sg_words.proofs.Turns as turns
use Rattle.sg_words.proofs.Turns.{with_text, rested, holds, awaits, stands, waits_for_none, Ready, ready-rested, ready-words, ready-option, unready}

-- the rows with a piece more
abbrev pub with_row : List Row → Piece → List Row
with_row rows (positional_word word) = with_text words_id word rows
with_row rows (given_option name value) = with_text name value rows

-- no option is named as the positional words are
abbrev pub AreApart : List Piece → Type 0
AreApart [] = ⊤
AreApart (positional_word word ∷ pieces) = AreApart pieces
AreApart (given_option name value ∷ pieces) = (bytes_eq words_id name ≡ false) × AreApart pieces

-- clap finds these pieces, behind these rows, or has a fault where there are none
abbrev pub Meets : List Row → Option (List Piece) → Kinds → List Row → Type 0
Meets rows None kinds found = kinds ≡ [] → ⊥
Meets rows (Some pieces) kinds found = (kinds ≡ []) × (found ≡ fold with_row rows pieces) × AreApart pieces

meets_as : (rows : List Row) {a b : Option (List Piece)} {k l : Kinds} {r s : List Row} → a ≡ b → k ≡ l → r ≡ s → Meets rows b l s → Meets rows a k r
meets_as rows same_pieces same_kinds same_rows h = rw (same_pieces, same_kinds, same_rows) h

meets_none : (rows : List Row) (pieces : Option (List Piece)) (kinds : Kinds) (found : List Row) (kind : ErrorKind) → pieces ≡ None → kinds ≡ kind ∷ [] → Meets rows pieces kinds found
meets_none rows pieces kinds found kind none fault = subst (λ (p : Option (List Piece)). Meets rows p kinds found) (sym none) (λ e. let bad : kind ∷ [] ≡ [] = sym fault ∙ e in absurd cc)

-- one piece more in front
meets_word : (rows : List Row) (word : Text) (pieces : Option (List Piece)) (kinds : Kinds) (found : List Row)
    → Meets (with_text words_id word rows) pieces kinds found → Meets rows (with_piece (positional_word word) pieces) kinds found
meets_word rows word None kinds found h = h
meets_word rows word (Some pieces) kinds found h = h

meets_option : (rows : List Row) (name value : Text) (pieces : Option (List Piece)) (kinds : Kinds) (found : List Row) → bytes_eq words_id name ≡ false
    → Meets (with_text name value rows) pieces kinds found → Meets rows (with_piece (given_option name value) pieces) kinds found
meets_option rows name value None kinds found other h = h
meets_option rows name value (Some pieces) kinds found other h = (h.0, h.1, (other, h.2))

-- ---- what the definition says at each word

pub pieces_of-end : (names : List Text) (word : Text) (words : List Text) → is_end_of_options word ≡ true → pieces_of names (word ∷ words) None ≡ Some (map positional_word words)
unfolding pieces_of
pieces_of-end names word words e = rw e refl

pub pieces_of-word : (names : List Text) (word : Text) (words : List Text) → begins_with_hyphen word ≡ false
    → pieces_of names (word ∷ words) None ≡ with_piece (positional_word word) (pieces_of names words None)
unfolding pieces_of
pieces_of-word names word words h = rw (is_end_of_options-unhyphened word h, h) refl

pub pieces_of-option : (names : List Text) (word : Text) (words : List Text) → is_end_of_options word ≡ false → begins_with_hyphen word ≡ true
    → pieces_of names (word ∷ words) None ≡ option_read names (long_of word) (pieces_of names words)
unfolding pieces_of
pieces_of-option names word words e h = rw (e, h) refl

pub pieces_of-value : (names : List Text) (word : Text) (words : List Text) (name : Text) → begins_with_hyphen word ≡ false
    → pieces_of names (word ∷ words) (Some name) ≡ with_piece (given_option name word) (pieces_of names words None)
unfolding pieces_of
pieces_of-value names word words name h = rw h refl

pub pieces_of-no_value : (names : List Text) (word : Text) (words : List Text) (name : Text) → begins_with_hyphen word ≡ true → pieces_of names (word ∷ words) (Some name) ≡ None
unfolding pieces_of
pieces_of-no_value names word words name h = rw h refl

pub pieces_of-nothing : (names : List Text) → pieces_of names [] None ≡ Some []
unfolding pieces_of
pieces_of-nothing names = refl

pub pieces_of-waits : (names : List Text) (name : Text) → pieces_of names [] (Some name) ≡ None
unfolding pieces_of
pieces_of-waits names name = refl

-- ---- a stray word

option_read-none : (names : List Text) (long : Option (Text × Option Text)) (rest : Option Text → Option (List Piece))
    → (is_known names long ≡ false) ⊎ ((waiting : Option Text) → rest waiting ≡ None) → option_read names long rest ≡ None
option_read-none names None rest h = refl
option_read-none names (Some (name, value)) rest (inl unknown) = rw unknown refl
option_read-none names (Some (name, None)) rest (inr none) = go (has_name names name)
  where
    go : (b : Bool) → (if b then rest (Some name) else None) ≡ None
    go true = none (Some name)
    go false = refl
option_read-none names (Some (name, Some value)) rest (inr none) = go (has_name names name)
  where
    go : (b : Bool) → (if b then with_piece (given_option name value) (rest None) else None) ≡ None
    go true = ap (with_piece (given_option name value)) (none None)
    go false = refl

-- a word with a hyphen that is stray, or one of the words behind it is
stray_where : (names : List Text) (word : Text) (words : List Text) → is_end_of_options word ≡ false → begins_with_hyphen word ≡ true → has_stray names (word ∷ words) ≡ true
    → (is_written names word ≡ false) ⊎ (has_stray names words ≡ true)
stray_where names word words e h stray = go (is_written names word) (sym (ap (λ (b : Bool). if b then false else is_stray names word || has_stray names words) e
    ∙ ap (λ (b : Bool). (b && not (is_written names word)) || has_stray names words) h) ∙ stray)
  where
    go : (b : Bool) → ((true && not b) || has_stray names words) ≡ true → (b ≡ false) ⊎ (has_stray names words ≡ true)
    go true f = inr f
    go false f = inl refl

stray_later : (names : List Text) (word : Text) (words : List Text) → begins_with_hyphen word ≡ false → has_stray names (word ∷ words) ≡ true → has_stray names words ≡ true
stray_later names word words h stray =
    sym (ap (λ (b : Bool). if b then false else is_stray names word || has_stray names words) (is_end_of_options-unhyphened word h)
    ∙ ap (λ (b : Bool). (b && not (is_written names word)) || has_stray names words) h) ∙ stray

no_end : (names : List Text) (word : Text) (words : List Text) → is_end_of_options word ≡ true → has_stray names (word ∷ words) ≡ true → ⊥
no_end names word words e stray =
    true≢false (sym stray ∙ ap (λ (b : Bool). if b then false else is_stray names word || has_stray names words) e)

stray_value : (names : List Text) (word : Text) (words : List Text) (name : Text) → ((waiting : Option Text) → has_stray names words ≡ true → pieces_of names words waiting ≡ None)
    → has_stray names (word ∷ words) ≡ true → (begins_with_hyphen word ≡ true) ⊎ (begins_with_hyphen word ≡ false) → pieces_of names (word ∷ words) (Some name) ≡ None
stray_value names word words name later stray (inl h) = pieces_of-no_value names word words name h
stray_value names word words name later stray (inr h) =
    pieces_of-value names word words name h ∙ ap (with_piece (given_option name word)) (later None (stray_later names word words h stray))

stray_word : (names : List Text) (word : Text) (words : List Text) → ((waiting : Option Text) → has_stray names words ≡ true → pieces_of names words waiting ≡ None)
    → has_stray names (word ∷ words) ≡ true → (is_end_of_options word ≡ true) ⊎ (is_end_of_options word ≡ false) → (begins_with_hyphen word ≡ true) ⊎ (begins_with_hyphen word ≡ false)
    → pieces_of names (word ∷ words) None ≡ None
stray_word names word words later stray (inl e) hyphen = absurd (no_end names word words e stray)
stray_word names word words later stray (inr e) (inr h) =
    pieces_of-word names word words h ∙ ap (with_piece (positional_word word)) (later None (stray_later names word words h stray))
stray_word names word words later stray (inr e) (inl h) =
    pieces_of-option names word words e h ∙ option_read-none names (long_of word) (pieces_of names words) (go (stray_where names word words e h stray))
  where
    go : (is_written names word ≡ false) ⊎ (has_stray names words ≡ true) → (is_known names (long_of word) ≡ false) ⊎ ((waiting : Option Text) → pieces_of names words waiting ≡ None)
    go (inl unknown) = inl unknown
    go (inr behind) = inr (λ waiting. later waiting behind)

stray_pieces : (names : List Text) (words : List Text) (waiting : Option Text) → has_stray names words ≡ true → pieces_of names words waiting ≡ None
stray_pieces names [] waiting stray = absurd (true≢false (sym stray))
stray_pieces names (word ∷ words) None stray =
    stray_word names word words (stray_pieces names words) stray (cases_Bool (is_end_of_options word)) (cases_Bool (begins_with_hyphen word))
stray_pieces names (word ∷ words) (Some name) stray = stray_value names word words name (stray_pieces names words) stray (cases_Bool (begins_with_hyphen word))

-- words with a stray one say nothing
pub pieces_of-stray : (names : List Text) (words : List Text) → has_stray names words ≡ true → pieces_of names words None ≡ None
pieces_of-stray names words stray = stray_pieces names words None stray

-- ---- a word that is an option

pub data Written (names : List Text) (word : Text) : Type 0 where
  alone : (name : Text) → long_of word ≡ Some (name, None) → has_name names name ≡ true → Written names word
  with_value : (name value : Text) → long_of word ≡ Some (name, Some value) → has_name names name ≡ true → Written names word

written_by : (names : List Text) (word : Text) (long : Option (Text × Option Text)) → long_of word ≡ long → is_known names long ≡ true → Written names word
written_by names word None e known = absurd cc
written_by names word (Some (name, None)) e known = alone name e known
written_by names word (Some (name, Some value)) e known = with_value name value e known

module _ (command : Text) (names : List Text) (apart : (name : Text) → has_name names name ≡ true → bytes_eq words_id name ≡ false) where
  abbrev shape : Shape
  shape = leaf command names

  abbrev MeetsFrom : List Row → Option (List Piece) → Walk → List Text → Type 0
  MeetsFrom rows pieces w words = Meets rows pieces (rest_fault shape w words) (rest_rows shape w words)

  -- ---- after the last word

  rows_at_end : (held : Held) (rows : List Row) → Ready names held rows → finished (rules_for names) held ≡ rows
  rows_at_end held rows ready = ap (λ (rs : List Row). fold with_default rs (rules_for names)) ready.settles ∙ rows_finished names rows

  at_end : (held : Held) (rows : List Row) (waiting : Waiting) (ended : Bool) → Ready names held rows → MeetsFrom rows (Some []) (stands held waiting ended) []
  at_end held rows waiting ended ready =
      (rest_fault-end shape (stands held waiting ended) ∙ end_fault-none command names held ready.faultless, rows_at_end held rows ready, tt)

  waits_at_end : (rows : List Row) (name : Text) (ended : Bool) → has_name names name ≡ true → rest_fault shape (stands (awaits rows name) (option name) ended) [] ≡ InvalidValue ∷ []
  waits_at_end rows name ended known =
      rest_fault-end shape (stands (awaits rows name) (option name) ended)
      ∙ end_fault-some command names (awaits rows name) InvalidValue (unready names rows name known (apart name known))

  -- ---- behind `--`

  after_end : (words : List Text) (held : Held) (rows : List Row) (waiting : Waiting) → Ready names held rows → MeetsFrom rows (Some (map positional_word words)) (stands held waiting true) words
  after_end [] held rows waiting ready = at_end held rows waiting true ready
  after_end (word ∷ words) held rows waiting ready =
      let m = turns.ended_moves command names held rows waiting word ready in
      meets_as rows {b = with_piece (positional_word word) (Some (map positional_word words))} refl
      (rest_fault-moves shape (stands held waiting true) (stands (holds rows words_id word) positional true) word words m)
      (rest_rows-moves shape (stands held waiting true) (stands (holds rows words_id word) positional true) word words m)
      (after_end words (holds rows words_id word) (with_text words_id word rows) positional (ready-words names rows word))

  waits_after_end : (words : List Text) (rows : List Row) (name : Text) → has_name names name ≡ true → rest_fault shape (stands (awaits rows name) (option name) true) words ≡ InvalidValue ∷ []
  waits_after_end [] rows name known = waits_at_end rows name true known
  waits_after_end (word ∷ words) rows name known =
      rest_fault-refused shape (stands (awaits rows name) (option name) true) word words InvalidValue (turns.ended_fault command names rows word name known (apart name known))

  -- ---- word by word

  record Finds (words : List Text) : Type 0 where
    ready : (held : Held) (rows : List Row) (waiting : Waiting) → waits_for_none waiting ≡ true → Ready names held rows → has_stray names words ≡ false
        → MeetsFrom rows (pieces_of names words None) (stands held waiting false) words
    waiting : (rows : List Row) (name : Text) → has_name names name ≡ true → has_stray names words ≡ false
        → MeetsFrom rows (pieces_of names words (Some name)) (stands (awaits rows name) (option name) false) words

  -- the walk goes on
  moved_on : (rows : List Row) (pieces rest : Option (List Piece)) (v w : Walk) (word : Text) (words : List Text) → pieces ≡ rest → Moves shape v word w
      → Meets rows rest (rest_fault shape w words) (rest_rows shape w words) → MeetsFrom rows pieces v (word ∷ words)
  moved_on rows pieces rest v w word words same m h =
      meets_as rows {b = rest} same (rest_fault-moves shape v w word words m) (rest_rows-moves shape v w word words m) h

  module _ (word : Text) (words : List Text) (later : Finds words) where
    ready_end : (held : Held) (rows : List Row) (waiting : Waiting) → Ready names held rows → is_end_of_options word ≡ true
        → MeetsFrom rows (pieces_of names (word ∷ words) None) (stands held waiting false) (word ∷ words)
    ready_end held rows waiting ready e =
        moved_on rows (pieces_of names (word ∷ words) None) (Some (map positional_word words)) (stands held waiting false) (stands held waiting true) word words
        (pieces_of-end names word words e) (turns.end_moves command names held waiting word e) (after_end words held rows waiting ready)

    ready_word : (held : Held) (rows : List Row) (waiting : Waiting) → waits_for_none waiting ≡ true → Ready names held rows → begins_with_hyphen word ≡ false → has_stray names words ≡ false
        → MeetsFrom rows (pieces_of names (word ∷ words) None) (stands held waiting false) (word ∷ words)
    ready_word held rows waiting none ready h kept =
        let next = stands (holds rows words_id word) positional false in
        moved_on rows (pieces_of names (word ∷ words) None) (with_piece (positional_word word) (pieces_of names words None)) (stands held waiting false) next word words
        (pieces_of-word names word words h) (turns.word_moves command names held rows waiting word none ready h)
        (meets_word rows word (pieces_of names words None) (rest_fault shape next words) (rest_rows shape next words)
        (later.ready (holds rows words_id word) (with_text words_id word rows) positional refl (ready-words names rows word) kept))

    ready_option : (held : Held) (rows : List Row) (waiting : Waiting) → waits_for_none waiting ≡ true → Ready names held rows → is_end_of_options word ≡ false → begins_with_hyphen word ≡ true
        → has_stray names words ≡ false → Written names word → MeetsFrom rows (pieces_of names (word ∷ words) None) (stands held waiting false) (word ∷ words)
    ready_option held rows waiting none ready e h kept (alone name long known) =
        moved_on rows (pieces_of names (word ∷ words) None) (pieces_of names words (Some name)) (stands held waiting false) (stands (awaits rows name) (option name) false) word words
        (pieces_of-option names word words e h ∙ rw (long, known) refl) (turns.apart_moves command names held rows waiting word name none ready e long known)
        (later.waiting rows name known kept)
    ready_option held rows waiting none ready e h kept (with_value name value long known) =
        let next = stands (rested (with_text name value rows)) idle false in
        moved_on rows (pieces_of names (word ∷ words) None) (with_piece (given_option name value) (pieces_of names words None)) (stands held waiting false) next word words
        (pieces_of-option names word words e h ∙ rw (long, known) refl) (turns.joined_moves command names held rows waiting word name value none ready e long known)
        (meets_option rows name value (pieces_of names words None) (rest_fault shape next words) (rest_rows shape next words) (apart name known)
        (later.ready (rested (with_text name value rows)) (with_text name value rows) idle refl (ready-rested names (with_text name value rows)) kept))

    written : is_end_of_options word ≡ false → begins_with_hyphen word ≡ true → has_stray names (word ∷ words) ≡ false → Written names word
    written e h kept = written_by names word (long_of word) refl (is_written-kept names word h (stray_parts names word words e kept).0)

    find_ready : (held : Held) (rows : List Row) (waiting : Waiting) → waits_for_none waiting ≡ true → Ready names held rows → has_stray names (word ∷ words) ≡ false
        → (is_end_of_options word ≡ true) ⊎ (is_end_of_options word ≡ false) → (begins_with_hyphen word ≡ true) ⊎ (begins_with_hyphen word ≡ false)
        → MeetsFrom rows (pieces_of names (word ∷ words) None) (stands held waiting false) (word ∷ words)
    find_ready held rows waiting none ready kept (inl e) hyphen = ready_end held rows waiting ready e
    find_ready held rows waiting none ready kept (inr e) (inl h) = ready_option held rows waiting none ready e h (stray_parts names word words e kept).1 (written e h kept)
    find_ready held rows waiting none ready kept (inr e) (inr h) = ready_word held rows waiting none ready h (stray_parts names word words e kept).1

    waiting_value : (rows : List Row) (name : Text) → has_name names name ≡ true → begins_with_hyphen word ≡ false → has_stray names words ≡ false
        → MeetsFrom rows (pieces_of names (word ∷ words) (Some name)) (stands (awaits rows name) (option name) false) (word ∷ words)
    waiting_value rows name known h kept =
        let next = stands (holds rows name word) idle false in
        moved_on rows (pieces_of names (word ∷ words) (Some name)) (with_piece (given_option name word) (pieces_of names words None)) (stands (awaits rows name) (option name) false) next word words
        (pieces_of-value names word words name h) (turns.value_moves command names rows word name known (apart name known) h)
        (meets_option rows name word (pieces_of names words None) (rest_fault shape next words) (rest_rows shape next words) (apart name known)
        (later.ready (holds rows name word) (with_text name word rows) idle refl (ready-option names rows name word known (apart name known)) kept))

    waiting_end : (rows : List Row) (name : Text) → has_name names name ≡ true → is_end_of_options word ≡ true
        → MeetsFrom rows (pieces_of names (word ∷ words) (Some name)) (stands (awaits rows name) (option name) false) (word ∷ words)
    waiting_end rows name known e =
        let v = stands (awaits rows name) (option name) false in
        meets_none rows (pieces_of names (word ∷ words) (Some name)) (rest_fault shape v (word ∷ words)) (rest_rows shape v (word ∷ words)) InvalidValue
        (pieces_of-no_value names word words name (begins-end word e))
        (rest_fault-moves shape v (stands (awaits rows name) (option name) true) word words (turns.end_moves command names (awaits rows name) (option name) word e)
        ∙ waits_after_end words rows name known)

    waiting_option : (rows : List Row) (name : Text) → has_name names name ≡ true → is_end_of_options word ≡ false → begins_with_hyphen word ≡ true → Written names word
        → MeetsFrom rows (pieces_of names (word ∷ words) (Some name)) (stands (awaits rows name) (option name) false) (word ∷ words)
    waiting_option rows name known e h (alone next long met) =
        let v = stands (awaits rows name) (option name) false in
        meets_none rows (pieces_of names (word ∷ words) (Some name)) (rest_fault shape v (word ∷ words)) (rest_rows shape v (word ∷ words)) InvalidValue
        (pieces_of-no_value names word words name h)
        (rest_fault-refused shape v word words InvalidValue (turns.option_fault command names rows word name next None known (apart name known) e long met))
    waiting_option rows name known e h (with_value next value long met) =
        let v = stands (awaits rows name) (option name) false in
        meets_none rows (pieces_of names (word ∷ words) (Some name)) (rest_fault shape v (word ∷ words)) (rest_rows shape v (word ∷ words)) InvalidValue
        (pieces_of-no_value names word words name h)
        (rest_fault-refused shape v word words InvalidValue (turns.option_fault command names rows word name next (Some value) known (apart name known) e long met))

    find_waiting : (rows : List Row) (name : Text) → has_name names name ≡ true → has_stray names (word ∷ words) ≡ false
        → (is_end_of_options word ≡ true) ⊎ (is_end_of_options word ≡ false) → (begins_with_hyphen word ≡ true) ⊎ (begins_with_hyphen word ≡ false)
        → MeetsFrom rows (pieces_of names (word ∷ words) (Some name)) (stands (awaits rows name) (option name) false) (word ∷ words)
    find_waiting rows name known kept (inl e) hyphen = waiting_end rows name known e
    find_waiting rows name known kept (inr e) (inl h) = waiting_option rows name known e h (written e h kept)
    find_waiting rows name known kept (inr e) (inr h) = waiting_value rows name known h (stray_parts names word words e kept).1

  finds : (words : List Text) → Finds words
  finds [] = record {
    ready = λ held rows waiting none ready kept. meets_as rows {b = Some []} (pieces_of-nothing names) refl refl (at_end held rows waiting false ready);
    waiting = λ rows name known kept.
        let v = stands (awaits rows name) (option name) false in
        meets_none rows (pieces_of names [] (Some name)) (rest_fault shape v []) (rest_rows shape v []) InvalidValue (pieces_of-waits names name) (waits_at_end rows name false known);
  }
  finds (word ∷ words) =
      let later = finds words in
      record {
        ready = λ held rows waiting none ready kept.
            find_ready word words later held rows waiting none ready kept (cases_Bool (is_end_of_options word)) (cases_Bool (begins_with_hyphen word));
        waiting = λ rows name known kept. find_waiting word words later rows name known kept (cases_Bool (is_end_of_options word)) (cases_Bool (begins_with_hyphen word));
      }

  -- clap finds the pieces of all the words
  pub leaf_meets : (words : List Text) → has_stray names words ≡ false
      → Meets [] (pieces_of names words None) (rest_fault (leaf command names) (stands (rested []) idle false) words) (rest_rows (leaf command names) (stands (rested []) idle false) words)
  leaf_meets words kept = (finds words).ready (rested []) [] idle refl (ready-rested names []) kept
