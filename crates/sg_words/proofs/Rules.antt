-- The rules of a command as clap builds them, and which of them an id, a name or a place finds.
use Rattle.std.proofs.Common.{◌≡◌, ◌∙◌, ℕ, ◌+◌, cond, add-zero, Bool, true, false, List, [], ◌∷◌, ◌++◌, map, Option, Some, None, codes, refl, sym, ap, append-nil, append_assoc, inl, inr}
use Rattle.std.specs.Prelude.{fold, ◌⊎◌, ◌&&◌, ◌||◌, not, bytes_eq, is_some, find}
use Rattle.std.specs.List.{list_all, list_any}
use Rattle.std.proofs.lemmas.Bool.{cases_Bool}
use Rattle.std.proofs.lemmas.Slice.Eq.{bytes_eq-Decides}
use Rattle.clap.specs.Walk.{Rule, arg_by_id, arg_by_long, has_long, is_early_multiple}
use Rattle.clap.specs.Simple.{App, Shape, built, filled, filled_from, with_index, with_rule, with_subcommand, new_app, new_shape, on_top, is_simple, is_buildable, is_in_order, is_ready, is_ready_leaf}
use Rattle.clap.specs.Faults.{is_simple_and_free, is_free_app}
use Rattle.sg_words.specs.Words.{Text, has_name}
use Rattle.sg_words.specs.Line.{words_id, words_rule, option_rule, command_line, bare_line, line}

-- ---- as clap builds them

abbrev pub built_words : Rule
built_words = with_index 1 (filled words_rule)

abbrev pub built_option : Text → Rule
built_option name = filled (option_rule name)

abbrev pub rules_for : List Text → List Rule
rules_for names = built_words ∷ map built_option names

-- the program and the command, built
abbrev pub top : Shape
top = record {
  name = codes "patrol";
  aliases = [];
  rules = [];
  is_plain = true;
  is_leaf = false;
  no_binary_name = true;
  disable_help_flag = true;
  disable_help_subcommand = true;
  disable_version_flag = true;
  propagate_version = false;
  has_version = false;
  has_long_version = false;
  args_override_self = false;
  arg_required_else_help = false;
  subcommand_required = true;
  subcommand_negates_reqs = false;
  is_built = true;
}

abbrev pub leaf_with : Text → List Rule → Shape
leaf_with name rules = record top {
  name = name;
  rules = rules;
  is_leaf = true;
  subcommand_required = false;
}

abbrev pub leaf : Text → List Text → Shape
leaf name names = leaf_with name (rules_for names)

abbrev pub built_line : Text → List Text → App
built_line name names = record { top = top; subs = leaf name names ∷ [] }

-- ---- building

rules_added : (app : App) (names : List Text)
    → fold (λ (a : App) (name : Text). with_rule a (option_rule name)) app names ≡ on_top (λ (s : Shape). record s { rules = s.rules ++ map option_rule names }) app
rules_added app [] = ap (λ (rs : List Rule). on_top (λ (s : Shape). record s { rules = rs }) app) (sym (append-nil app.top.rules))
rules_added app (name ∷ names) =
    rules_added (with_rule app (option_rule name)) names
    ∙ ap (λ (rs : List Rule). on_top (λ (s : Shape). record s { rules = rs }) app) (append_assoc app.top.rules (option_rule name ∷ []) (map option_rule names))

abbrev pub line_with : Text → List Rule → App
line_with name rules = with_subcommand bare_line (record (new_shape name) { rules = rules })

line-is : (name : Text) (names : List Text) → line name names ≡ line_with name (words_rule ∷ map option_rule names)
line-is name names = ap (λ (a : App). with_subcommand bare_line a.top) (rules_added (with_rule (new_app name) words_rule) names)

-- a command with its options has no setting that changes how words are read
pub command_line-plain : (name : Text) (names : List Text) → (command_line name names).top.is_plain ≡ true
command_line-plain name names = ap (λ (a : App). a.top.is_plain) (rules_added (with_rule (new_app name) words_rule) names)

options_filled : (i : ℕ) (names : List Text) → filled_from i (map option_rule names) ≡ map built_option names
options_filled i [] = refl
options_filled i (name ∷ names) = ap (λ (rs : List Rule). built_option name ∷ rs) (options_filled i names)

pub built-line : (name : Text) (names : List Text) → built (line name names) ≡ built_line name names
built-line name names =
    ap built (line-is name names)
    ∙ ap (λ (rs : List Rule). record { top = top; subs = leaf_with name (built_words ∷ rs) ∷ [] }) (options_filled 2 names)

-- ---- they are simple

raw_are_simple : (names : List Text) → list_all (λ (a : Rule). a.is_simple) (map option_rule names) ≡ true
raw_are_simple [] = refl
raw_are_simple (name ∷ names) = raw_are_simple names

are_simple : (names : List Text) → list_all (λ (a : Rule). a.is_simple) (map built_option names) ≡ true
are_simple [] = refl
are_simple (name ∷ names) = are_simple names

are_free : (names : List Text) → list_all (λ (a : Rule). a.is_free) (map built_option names) ≡ true
are_free [] = refl
are_free (name ∷ names) = are_free names

no_places : (n : ℕ) (names : List Text) → fold (λ (k : ℕ) (a : Rule). k + cond (is_some a.index) 1 0) n (map built_option names) ≡ n
no_places n [] = refl
no_places n (name ∷ names) = ap (λ (k : ℕ). fold (λ (k : ℕ) (a : Rule). k + cond (is_some a.index) 1 0) k (map built_option names)) (add-zero n) ∙ no_places n names

none_early : (n : ℕ) (names : List Text) → list_any (is_early_multiple n) (map built_option names) ≡ false
none_early n [] = refl
none_early n (name ∷ names) = none_early n names

in_order : (names : List Text) → is_in_order (rules_for names) ≡ true
in_order names = ap (λ (n : ℕ). not (list_any (is_early_multiple n) (rules_for names))) (no_places 1 names) ∙ ap not (none_early 1 names)

all_three : (a b c : Bool) → a ≡ true → b ≡ true → c ≡ true → (a && (b && c)) ≡ true
all_three a b c d e f = rw (d, e, f) refl

buildable : (name : Text) (names : List Text) → is_buildable (line name names) ≡ true
buildable name names = ap is_buildable (line-is name names) ∙ rw (raw_are_simple names) refl

ready_leaf : (name : Text) (names : List Text) → is_ready_leaf (leaf name names) ≡ true
ready_leaf name names = rw (are_simple names, in_order names) refl

pub line_is_simple : (name : Text) (names : List Text) → is_simple (line name names) ≡ true
line_is_simple name names =
    all_three (is_buildable (line name names)) (is_ready (built (line name names)).top) (list_all is_ready_leaf (built (line name names)).subs)
    (buildable name names) (ap (λ (a : App). is_ready a.top) (built-line name names))
    (ap (λ (a : App). list_all is_ready_leaf a.subs) (built-line name names) ∙ rw (ready_leaf name names) refl)

pub line_is_free : (name : Text) (names : List Text) → is_simple_and_free (line name names) ≡ true
line_is_free name names = rw (line_is_simple name names) (ap is_free_app (built-line name names) ∙ rw (are_free names) refl)

-- ---- which of them is found

pub bytes_eq-same : (text : Text) → bytes_eq text text ≡ true
bytes_eq-same text = (bytes_eq-Decides text text).1 refl

tail_has : (known : Text) (names : List Text) (name : Text) → bytes_eq known name ≡ false → has_name (known ∷ names) name ≡ true → has_name names name ≡ true
tail_has known names name e h = sym (ap (λ b. b || has_name names name) e) ∙ h

options_by_id : (names : List Text) (name : Text) → has_name names name ≡ true → find (λ (a : Rule). bytes_eq a.id name) (map built_option names) ≡ Some (built_option name)
options_by_id [] name h = absurd cc
options_by_id (known ∷ names) name h = go (cases_Bool (bytes_eq known name)) (λ e. options_by_id names name (tail_has known names name e h))
  where
    go : (bytes_eq known name ≡ true) ⊎ (bytes_eq known name ≡ false)
        → (bytes_eq known name ≡ false → find (λ (a : Rule). bytes_eq a.id name) (map built_option names) ≡ Some (built_option name))
        → find (λ (a : Rule). bytes_eq a.id name) (map built_option (known ∷ names)) ≡ Some (built_option name)
    go (inl e) later = rw e (ap (λ (t : Text). Some (built_option t)) ((bytes_eq-Decides known name).0 e))
    go (inr e) later = rw e (later e)

pub by_id : (names : List Text) (name : Text) → has_name names name ≡ true → bytes_eq words_id name ≡ false → arg_by_id (rules_for names) name ≡ Some (built_option name)
by_id names name h other = rw other (options_by_id names name h)

abbrev pub named_by : Text → Rule → Bool
named_by name a = not (is_some a.index) && has_long a name

pub by_long : (names : List Text) (name : Text) → has_name names name ≡ true → arg_by_long (rules_for names) name ≡ Some (built_option name)
by_long [] name h = absurd cc
by_long (known ∷ names) name h = go (cases_Bool (bytes_eq known name)) (λ e. by_long names name (tail_has known names name e h))
  where
    go : (bytes_eq known name ≡ true) ⊎ (bytes_eq known name ≡ false)
        → (bytes_eq known name ≡ false → arg_by_long (rules_for names) name ≡ Some (built_option name))
        → arg_by_long (rules_for (known ∷ names)) name ≡ Some (built_option name)
    go (inl e) later = rw e (ap (λ (t : Text). Some (built_option t)) ((bytes_eq-Decides known name).0 e))
    go (inr e) later = rw e (later e)
