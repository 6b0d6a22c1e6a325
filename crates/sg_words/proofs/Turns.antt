-- What one word does to a walk of clap's over the words of a command, where no word is stray.
use Rattle.std.proofs.Common.{◌≡◌, ◌∙◌, ℕ, Bool, true, false, List, [], ◌∷◌, map, Option, Some, None, refl, sym, ap, ap₂}
use Rattle.std.specs.Prelude.{bytes_eq}
use Rattle.clap.specs.Walk.{Held, Row, Rule, Walk, Waiting, idle, option, positional, settled_rows, reacted, used, with_values, is_pending}
use Rattle.clap.specs.Lexer.{long_of}
use Rattle.clap.specs.Faults.{turn_fault, settle_fault}
use Rattle.clap.specs.declared.builder.value_parser.Reading.TheVariants.{AsWritten}
use Rattle.clap.specs.declared.error.kind.ErrorKind.TheVariants.{InvalidValue}
use Rattle.clap.specs.declared.parser.matches.ValueSource.TheVariants.{CommandLine}
use Rattle.clap.proofs.OnLiterals.{clap_on_literals}
use Rattle.sg_words.specs.Words.{Text, is_end_of_options, begins_with_hyphen, has_name}
use Rattle.sg_words.specs.Line.{words_id}
use Rattle.sg_words.proofs.Marks.{is_end_of_options-unhyphened, long_of-unhyphened, short_of-unhyphened}
use Rattle.sg_words.proofs.Rules.{rules_for, built_words, built_option, leaf, by_id, by_long, bytes_eq-same}
use Rattle.sg_words.proofs.Rest.{Moves, and_false}

-- ---- where a walk stands

-- the rows with one more value of this id
abbrev pub with_text : Text → Text → List Row → List Row
with_text id text rows = with_values id AsWritten CommandLine (text ∷ []) rows

-- nothing is pending, a value of this id is, or this option waits for its value
abbrev pub rested : List Row → Held
rested rows = record { rows = rows; pending = None; skip = 0 }

abbrev pub holds : List Row → Text → Text → Held
holds rows id text = record { rows = rows; pending = Some (id, text ∷ []); skip = 0 }

abbrev pub awaits : List Row → Text → Held
awaits rows name = record { rows = rows; pending = Some (name, []); skip = 0 }

abbrev pub stands : Held → Waiting → Bool → Walk
stands held waiting ended = record { held = held; waiting = waiting; position = 1; is_trailing = ended; stopped = None }

-- no option waits for its value
abbrev pub waits_for_none : Waiting → Bool
waits_for_none idle = true
waits_for_none (option name) = false
waits_for_none positional = true

-- what is held comes to these rows, with no fault
pub record Ready (names : List Text) (held : Held) (rows : List Row) : Type 0 where
  pub settles : settled_rows (rules_for names) held.pending held.rows ≡ rows
  pub unskipped : held.skip ≡ 0
  pub faultless : settle_fault (rules_for names) false held ≡ []

pub ready-rested : (names : List Text) (rows : List Row) → Ready names (rested rows) rows
ready-rested names rows = record { settles = refl; unskipped = refl; faultless = refl }

pub ready-words : (names : List Text) (rows : List Row) (word : Text) → Ready names (holds rows words_id word) (with_text words_id word rows)
ready-words names rows word = record { settles = refl; unskipped = refl; faultless = refl }

pub ready-option : (names : List Text) (rows : List Row) (name value : Text) → has_name names name ≡ true → bytes_eq words_id name ≡ false
    → Ready names (holds rows name value) (with_text name value rows)
ready-option names rows name value known other = record { settles = rw (by_id names name known other) refl; unskipped = refl; faultless = rw (by_id names name known other) refl }

pub unready : (names : List Text) (rows : List Row) (name : Text) → has_name names name ≡ true → bytes_eq words_id name ≡ false
    → settle_fault (rules_for names) false (awaits rows name) ≡ InvalidValue ∷ []
unready names rows name known other = rw (by_id names name known other) refl

module _ (command : Text) (names : List Text) where
  -- ---- `--`

  pub end_moves : (held : Held) (waiting : Waiting) (word : Text) → is_end_of_options word ≡ true
      → Moves (leaf command names) (stands held waiting false) word (stands held waiting true)
  unfolding clap_on_literals
  end_moves held idle word e = record { faultless = rw e refl; moved = rw e refl }
  end_moves held (option name) word e = record { faultless = rw e refl; moved = rw e refl }
  end_moves held positional word e = record { faultless = rw e refl; moved = rw e refl }

  -- ---- a positional word

  pub ended_moves : (held : Held) (rows : List Row) (waiting : Waiting) (word : Text) → Ready names held rows
      → Moves (leaf command names) (stands held waiting true) word (stands (holds rows words_id word) positional true)
  unfolding clap_on_literals
  ended_moves held rows waiting word ready = record {
    faultless = rw (and_false (is_pending built_words held.pending), ready.faultless) refl;
    moved = rw (and_false (is_pending built_words held.pending), ready.settles, ready.unskipped) refl;
  }

  pub word_moves : (held : Held) (rows : List Row) (waiting : Waiting) (word : Text) → waits_for_none waiting ≡ true → Ready names held rows → begins_with_hyphen word ≡ false
      → Moves (leaf command names) (stands held waiting false) word (stands (holds rows words_id word) positional false)
  unfolding clap_on_literals
  word_moves held rows (option name) word none ready h = absurd cc
  word_moves held rows idle word none ready h = record {
    faultless = rw (is_end_of_options-unhyphened word h, long_of-unhyphened word h, short_of-unhyphened word h, and_false (is_pending built_words held.pending), ready.faultless) refl;
    moved = rw (is_end_of_options-unhyphened word h, long_of-unhyphened word h, short_of-unhyphened word h, and_false (is_pending built_words held.pending), ready.settles, ready.unskipped) refl;
  }
  word_moves held rows positional word none ready h = record {
    faultless = rw (is_end_of_options-unhyphened word h, long_of-unhyphened word h, short_of-unhyphened word h, and_false (is_pending built_words held.pending), ready.faultless) refl;
    moved = rw (is_end_of_options-unhyphened word h, long_of-unhyphened word h, short_of-unhyphened word h, and_false (is_pending built_words held.pending), ready.settles, ready.unskipped) refl;
  }

  -- ---- an option

  pub apart_moves : (held : Held) (rows : List Row) (waiting : Waiting) (word name : Text) → waits_for_none waiting ≡ true → Ready names held rows → is_end_of_options word ≡ false
      → long_of word ≡ Some (name, None) → has_name names name ≡ true → Moves (leaf command names) (stands held waiting false) word (stands (awaits rows name) (option name) false)
  unfolding clap_on_literals
  apart_moves held rows (option other) word name none ready e long known = absurd cc
  apart_moves held rows idle word name none ready e long known = record {
    faultless = rw (e, long, by_long names name known, ready.faultless) refl;
    moved = rw (e, long, by_long names name known, ready.settles, ready.unskipped) refl;
  }
  apart_moves held rows positional word name none ready e long known = record {
    faultless = rw (e, long, by_long names name known, ready.faultless) refl;
    moved = rw (e, long, by_long names name known, ready.settles, ready.unskipped) refl;
  }

  reacted-ready : (held : Held) (rows : List Row) (a : Rule) (values : List Text) → Ready names held rows → reacted (rules_for names) a values held ≡ rested (used a values rows)
  reacted-ready held rows a values ready =
      ap₂ (λ (rs : List Row) (k : ℕ). record { rows = used a values rs; pending = None; skip = k }) ready.settles ready.unskipped

  pub joined_moves : (held : Held) (rows : List Row) (waiting : Waiting) (word name value : Text) → waits_for_none waiting ≡ true → Ready names held rows → is_end_of_options word ≡ false
      → long_of word ≡ Some (name, Some value) → has_name names name ≡ true → Moves (leaf command names) (stands held waiting false) word (stands (rested (with_text name value rows)) idle false)
  unfolding clap_on_literals
  joined_moves held rows (option other) word name value none ready e long known = absurd cc
  joined_moves held rows idle word name value none ready e long known = record {
    faultless = rw (e, long, by_long names name known, ready.faultless) refl;
    moved = rw (e, long, by_long names name known) (ap (λ (h : Held). stands h idle false) (reacted-ready held rows (built_option name) (value ∷ []) ready));
  }
  joined_moves held rows positional word name value none ready e long known = record {
    faultless = rw (e, long, by_long names name known, ready.faultless) refl;
    moved = rw (e, long, by_long names name known) (ap (λ (h : Held). stands h idle false) (reacted-ready held rows (built_option name) (value ∷ []) ready));
  }

  -- ---- where an option waits for its value

  pub value_moves : (rows : List Row) (word name : Text) → has_name names name ≡ true → bytes_eq words_id name ≡ false → begins_with_hyphen word ≡ false
      → Moves (leaf command names) (stands (awaits rows name) (option name) false) word (stands (holds rows name word) idle false)
  unfolding clap_on_literals
  value_moves rows word name known other h = record {
    faultless = rw (is_end_of_options-unhyphened word h, long_of-unhyphened word h, short_of-unhyphened word h) refl;
    moved = rw (is_end_of_options-unhyphened word h, long_of-unhyphened word h, short_of-unhyphened word h, by_id names name known other, bytes_eq-same name) refl;
  }

  -- a word behind `--` is no value
  pub ended_fault : (rows : List Row) (word name : Text) → has_name names name ≡ true → bytes_eq words_id name ≡ false
      → turn_fault (leaf command names) [] (stands (awaits rows name) (option name) true) word ≡ InvalidValue ∷ []
  unfolding clap_on_literals
  ended_fault rows word name known other = rw (and_false (bytes_eq name words_id), by_id names name known other) refl

  -- an option is no value
  pub option_fault : (rows : List Row) (word name next : Text) (value : Option Text) → has_name names name ≡ true → bytes_eq words_id name ≡ false → is_end_of_options word ≡ false
      → long_of word ≡ Some (next, value) → has_name names next ≡ true
      → turn_fault (leaf command names) [] (stands (awaits rows name) (option name) false) word ≡ InvalidValue ∷ []
  unfolding clap_on_literals
  option_fault rows word name next None known other e long met = rw (e, long, by_long names next met, by_id names name known other) refl
  option_fault rows word name next (Some value) known other e long met = rw (e, long, by_long names next met, by_id names name known other) refl
