-- A command of a table as `clap` knows it: a subcommand that takes any number of positional words, and its options with one value
-- each. How many words it takes and what they are is read from the texts that the parse finds.
use Rattle.std.specs.Prelude.{◌≡◌, true, false, List, [], ◌∷◌, fold, Option, Some, None, unwrap_or, codes}
use Rattle.clap.specs.Words.{App, Row, Rule, new_app, new_rule, with_rule, with_subcommand, all_of}
use Rattle.clap.specs.declared.builder.ArgAction.TheVariants.{Append}
use Rattle.sg_words.specs.Words.{Text}
use Rattle.sg_words.specs.Usages.{Usage, arguments_by}

-- the id of the positional words, which no option's name is
abbrev pub words_id : Text
words_id = codes "="

-- the rule for the positional words
abbrev pub words_rule : Rule
words_rule = record (new_rule words_id) { action = Some Append }

-- the rule for an option
abbrev pub option_rule : Text → Rule
option_rule name = record (new_rule name) { long = Some name; action = Some Append }

-- the subcommand of this name, with these options
abbrev pub command_line : Text → List Text → App
command_line name options = fold (λ app option. with_rule app (option_rule option)) (with_rule (new_app name) words_rule) options

-- the program, with no help and no version, which wants a command
abbrev pub bare_line : App
bare_line = record (new_app (codes "patrol")) {
  top = record (new_app (codes "patrol")).top {
    no_binary_name = true;
    disable_help_flag = true;
    disable_help_subcommand = true;
    disable_version_flag = true;
    subcommand_required = true;
  };
}

-- the program with this command
abbrev pub line : Text → List Text → App
line name options = with_subcommand bare_line (command_line name options).top

-- the texts that a parse found under an id
abbrev pub texts_in : Text → List Row → List Text
texts_in id rows = unwrap_or (all_of id rows) []

-- the arguments of a command in the rows of a parse
abbrev pub arguments_in : Usage → List Row → Option (List Text)
arguments_in usage rows = arguments_by usage (texts_in words_id rows) (λ name. texts_in name rows)

-- the first of the words is this one
abbrev pub NamesFirst : Text → List Text → Type 0
NamesFirst name [] = ⊥
NamesFirst name (first ∷ others) = first ≡ name
