-- The fault and the rows of the words to come, word by word.
use Rattle.std.proofs.Common.{◌≡◌, ◌∙◌, Bool, true, false, List, [], ◌∷◌, refl, sym, ap}
use Rattle.std.specs.Prelude.{fold, ◌&&◌, ◌||◌, not, map, if◌then◌else◌}
use Rattle.std.specs.List.{list_any}
use Rattle.clap.specs.Walk.{Held, Row, Rule, Walk, walked, finished, settled, has_row, is_empty, with_default, default_rows}
use Rattle.clap.specs.Simple.{Shape}
use Rattle.clap.specs.Takes.{is_given}
use Rattle.clap.specs.Kinds.{Kinds, or_else}
use Rattle.clap.specs.Faults.{walk_fault, turn_fault, settle_fault, default_fault, defaults_fault, check_fault}
use Rattle.clap.specs.declared.error.kind.ErrorKind.{ErrorKind}
use Rattle.sg_words.specs.Words.{Text}
use Rattle.sg_words.proofs.Rules.{rules_for, built_words, built_option, leaf}

-- the fault after the last word
abbrev pub end_fault : Shape → Held → Kinds
end_fault s end = or_else (settle_fault s.rules s.args_override_self end)
    (or_else (defaults_fault (settled s.rules end).rows s.rules) (check_fault s (finished s.rules end) false))

abbrev pub end_held : Shape → Walk → List Text → Held
end_held s w words = (fold (walked s.rules []) w words).held

-- the fault of the words to come
abbrev pub rest_fault : Shape → Walk → List Text → Kinds
rest_fault s w words = or_else (walk_fault s [] w words) (end_fault s (end_held s w words))

-- the rows after them
abbrev pub rest_rows : Shape → Walk → List Text → List Row
rest_rows s w words = finished s.rules (end_held s w words)

-- the word moves the walk, with no fault
pub record Moves (s : Shape) (from : Walk) (word : Text) (to : Walk) : Type 0 where
  pub faultless : turn_fault s [] from word ≡ []
  pub moved : walked s.rules [] from word ≡ to

pub rest_fault-moves : (s : Shape) (v w : Walk) (word : Text) (words : List Text) → Moves s v word w → rest_fault s v (word ∷ words) ≡ rest_fault s w words
unfolding walk_fault
rest_fault-moves s v w word words m =
    ap (λ (k : Kinds). or_else (or_else k (walk_fault s [] (walked s.rules [] v word) words)) (end_fault s (end_held s (walked s.rules [] v word) words))) m.faultless
    ∙ ap (λ (u : Walk). rest_fault s u words) m.moved

pub rest_rows-moves : (s : Shape) (v w : Walk) (word : Text) (words : List Text) → Moves s v word w → rest_rows s v (word ∷ words) ≡ rest_rows s w words
rest_rows-moves s v w word words m = ap (λ (u : Walk). rest_rows s u words) m.moved

pub rest_fault-refused : (s : Shape) (v : Walk) (word : Text) (words : List Text) (kind : ErrorKind) → turn_fault s [] v word ≡ kind ∷ [] → rest_fault s v (word ∷ words) ≡ kind ∷ []
unfolding walk_fault
rest_fault-refused s v word words kind fault =
    ap (λ (k : Kinds). or_else (or_else k (walk_fault s [] (walked s.rules [] v word) words)) (end_fault s (end_held s (walked s.rules [] v word) words))) fault

pub rest_fault-end : (s : Shape) (v : Walk) → rest_fault s v [] ≡ end_fault s v.held
unfolding walk_fault
rest_fault-end s v = refl

-- ---- after the last word: no rule has a default, and none is required

pub and_false : (b : Bool) → (b && false) ≡ false
and_false true = refl
and_false false = refl

or_true : (b : Bool) → (b || true) ≡ true
or_true true = refl
or_true false = refl

no_default_fault : (rows : List Row) (a : Rule) → a.defaults ≡ [] → default_fault rows a ≡ []
no_default_fault rows a e = rw (e, or_true (has_row a.id rows)) refl

same_either_way : (b : Bool) (rows : List Row) → (if b then rows else rows) ≡ rows
same_either_way true rows = refl
same_either_way false rows = refl

no_default : (rows : List Row) (a : Rule) → a.defaults ≡ [] → with_default rows a ≡ rows
no_default rows a e = rw e (same_either_way (has_row a.id rows) rows)

option_defaults : (names : List Text) (rows : List Row) → defaults_fault rows (map built_option names) ≡ []
unfolding defaults_fault
option_defaults [] rows = refl
option_defaults (name ∷ names) rows =
    ap (λ (k : Kinds). or_else k (defaults_fault (with_default rows (built_option name)) (map built_option names))) (no_default_fault rows (built_option name) refl)
    ∙ option_defaults names (with_default rows (built_option name))

no_defaults : (names : List Text) (rows : List Row) → defaults_fault rows (rules_for names) ≡ []
unfolding defaults_fault
no_defaults names rows =
    ap (λ (k : Kinds). or_else k (defaults_fault (with_default rows built_words) (map built_option names))) (no_default_fault rows built_words refl)
    ∙ option_defaults names (with_default rows built_words)

options_finished : (names : List Text) (rows : List Row) → fold with_default rows (map built_option names) ≡ rows
options_finished [] rows = refl
options_finished (name ∷ names) rows =
    ap (λ (rs : List Row). fold with_default rs (map built_option names)) (no_default rows (built_option name) refl) ∙ options_finished names rows

pub rows_finished : (names : List Text) (rows : List Row) → fold with_default rows (rules_for names) ≡ rows
rows_finished names rows =
    ap (λ (rs : List Row). fold with_default rs (map built_option names)) (no_default rows built_words refl) ∙ options_finished names rows

none_required : (names : List Text) (rows : List Row) → list_any (λ (a : Rule). a.required && not (is_given a.id rows)) (map built_option names) ≡ false
none_required [] rows = refl
none_required (name ∷ names) rows = none_required names rows

no_check_fault : (name : Text) (names : List Text) (rows : List Row) → check_fault (leaf name names) rows false ≡ []
no_check_fault name names rows = rw (none_required names rows) refl

pub end_fault-none : (name : Text) (names : List Text) (held : Held) → settle_fault (rules_for names) false held ≡ [] → end_fault (leaf name names) held ≡ []
end_fault-none name names held e =
    ap (λ (k : Kinds). or_else k (or_else (defaults_fault (settled (rules_for names) held).rows (rules_for names)) (check_fault (leaf name names) (finished (rules_for names) held) false))) e
    ∙ ap (λ (k : Kinds). or_else k (check_fault (leaf name names) (finished (rules_for names) held) false)) (no_defaults names (settled (rules_for names) held).rows)
    ∙ no_check_fault name names (finished (rules_for names) held)

pub end_fault-some : (name : Text) (names : List Text) (held : Held) (kind : ErrorKind) → settle_fault (rules_for names) false held ≡ kind ∷ [] → end_fault (leaf name names) held ≡ kind ∷ []
end_fault-some name names held kind e =
    ap (λ (k : Kinds). or_else k (or_else (defaults_fault (settled (rules_for names) held).rows (rules_for names)) (check_fault (leaf name names) (finished (rules_for names) held) false))) e
