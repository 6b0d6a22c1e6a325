-- What clap makes of the first word, the command's name, and what it leaves to the command.
use Rattle.std.proofs.Common.{◌≡◌, ◌∙◌, Bool, true, false, List, [], ◌∷◌, ◌++◌, Option, Some, None, codes, refl, sym, ap}
use Rattle.std.specs.Prelude.{fold, ◌&&◌, bytes_eq, is_some}
use Rattle.clap.specs.Walk.{Names, Row, Walk, idle, walk, walked, walk_from, nothing_held, finished, settled}
use Rattle.clap.specs.Simple.{App, Shape, entered, subcommand_of, names_of}
use Rattle.clap.specs.Kinds.{Kinds, or_else}
use Rattle.clap.specs.Faults.{fault_of, built_fault, walk_fault, turn_fault, settle_fault, defaults_fault, check_fault, entered_fault}
use Rattle.clap.proofs.OnLiterals.{clap_on_literals}
use Rattle.clap.proofs.WalkLemmas.{walk_stopped}
use Rattle.sg_words.specs.Words.{Text}
use Rattle.sg_words.specs.Line.{line}
use Rattle.sg_words.proofs.Rules.{top, leaf, built_line, built-line, bytes_eq-same}
use Rattle.sg_words.proofs.Rest.{rest_fault, rest_rows, and_false}
use Rattle.sg_words.proofs.Turns.{stands, rested}

or_else-nil : (kinds : Kinds) → or_else kinds [] ≡ kinds
or_else-nil [] = refl
or_else-nil (x ∷ xs) = refl

module _ (name : Text) (options : List Text) where
  abbrev app : App
  app = built_line name options

  abbrev names : Names
  names = (name, []) ∷ []

  -- where the walk stands once the command was met
  abbrev stopped_at : List Text → Walk
  stopped_at words = record (walk_from nothing_held) { stopped = Some (name, words) }

  abbrev whole_fault : Kinds → Walk → Kinds
  whole_fault kinds end =
      or_else kinds (or_else (entered_fault app end.stopped)
      (or_else (settle_fault top.rules top.args_override_self end.held)
      (or_else (defaults_fault (settled top.rules end.held).rows top.rules)
      (check_fault top (finished top.rules end.held) (is_some (entered app end.stopped))))))

  name_moves : walked top.rules names (walk_from nothing_held) name ≡ stopped_at []
  unfolding clap_on_literals
  name_moves = rw (bytes_eq-same name) refl

  name_faultless : turn_fault top names (walk_from nothing_held) name ≡ []
  unfolding clap_on_literals
  name_faultless = rw (bytes_eq-same name, and_false (bytes_eq name (codes "help"))) refl

  -- the words after it have no fault at this level
  quiet : (seen words : List Text) → walk_fault top names (stopped_at seen) words ≡ []
  unfolding walk_fault walked
  quiet seen [] = refl
  quiet seen (word ∷ words) = quiet (seen ++ word ∷ []) words

  name_walks : (words : List Text) → walk top.rules names nothing_held (name ∷ words) ≡ stopped_at words
  name_walks words =
      ap (λ (u : Walk). fold (walked top.rules names) u words) name_moves ∙ sym (walk_stopped top.rules names (walk_from nothing_held) name [] words)

  name_faults : (words : List Text) → walk_fault top names (walk_from nothing_held) (name ∷ words) ≡ []
  unfolding walk_fault
  name_faults words =
      ap (λ (k : Kinds). or_else k (walk_fault top names (walked top.rules names (walk_from nothing_held) name) words)) name_faultless
      ∙ ap (λ (u : Walk). walk_fault top names u words) name_moves ∙ quiet [] words

  built_is : (words : List Text) → built_fault app nothing_held words ≡ whole_fault (walk_fault top names (walk_from nothing_held) words) (walk top.rules names nothing_held words)
  built_is words = refl

  whole_is : (words : List Text) → whole_fault [] (stopped_at words) ≡ or_else (rest_fault (leaf name options) (stands (rested []) idle false) words) []
  unfolding clap_on_literals
  whole_is words = rw (bytes_eq-same name) refl

  -- the fault of all the words is that of the words behind the name
  pub fault_of-line : (words : List Text) → fault_of (line name options) (name ∷ words) ≡ rest_fault (leaf name options) (stands (rested []) idle false) words
  fault_of-line words =
      ap (λ (a : App). built_fault a nothing_held (name ∷ words)) (built-line name options)
      ∙ built_is (name ∷ words)
      ∙ ap (λ (k : Kinds). whole_fault k (walk top.rules names nothing_held (name ∷ words))) (name_faults words)
      ∙ ap (whole_fault []) (name_walks words) ∙ whole_is words ∙ or_else-nil (rest_fault (leaf name options) (stands (rested []) idle false) words)

  entered_is : (words : List Text) → entered app (Some (name, words)) ≡ Some (name, rest_rows (leaf name options) (stands (rested []) idle false) words)
  entered_is words = rw (bytes_eq-same name) refl

  -- and the command is entered, with the rows of these words
  pub subcommand_of-line : (words : List Text) → subcommand_of (line name options) (name ∷ words) ≡ Some (name, rest_rows (leaf name options) (stands (rested []) idle false) words)
  subcommand_of-line words =
      ap (λ (a : App). entered a (walk a.top.rules (names_of a) nothing_held (name ∷ words)).stopped) (built-line name options)
      ∙ ap (λ (u : Walk). entered app u.stopped) (name_walks words) ∙ entered_is words
