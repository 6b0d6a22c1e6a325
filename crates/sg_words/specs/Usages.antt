-- What a command takes: its row in a table of commands, and the arguments that words give to it.
use Rattle.std.specs.Prelude.{ℕ, Bool, true, false, ◌==◌, ◌&&◌, not, List, [], ◌∷◌, ◌++◌, map, length, Option, Some, None, option_map, option_and_then, find, if◌then◌else◌}
use Rattle.std.specs.List.{list_all, list_any}
use Rattle.std.specs.Str.{bytes_eq, byte}
use Rattle.sg_words.specs.Words.{Text, Piece, pieces_of, positional_words, values_of}
use Rattle.sg_words.specs.Kinds.{Kind, is_of, kind_written}
use Rattle.sg_words.specs.declared.usage.Setting.{Setting as CodeSetting}
use Rattle.sg_words.specs.declared.usage.Usage.{Usage as CodeUsage}
use Rattle.sg_words.specs.declared.usage.Given.{Given as CodeGiven}

-- an option: its name without hyphens, what its value must be, and the value that stands where it isn't given
pub record Setting : Type 0 where
  pub name : Text
  pub kind : Kind
  pub default : Text

-- a command: its name, what each of its positional words must be, and its options
pub record Usage : Type 0 where
  pub name : Text
  pub positionals : List Kind
  pub options : List Setting

-- the names of its options
abbrev pub option_names : Usage → List Text
option_names usage = map (λ (setting : Setting). setting.name) usage.options

-- ---- the arguments that words give

-- there are as many texts as kinds, each of its kind
abbrev pub are_of : List Kind → List Text → Bool
are_of [] [] = true
are_of [] (text ∷ texts) = false
are_of (kind ∷ kinds) [] = false
are_of (kind ∷ kinds) (text ∷ texts) = is_of kind text && are_of kinds texts

-- an option's value: the default where none is given, and the one that is given where it is of the option's kind; two are none
abbrev pub option_value : Setting → List Text → Option Text
option_value setting [] = Some setting.default
option_value setting (value ∷ []) = if is_of setting.kind value then Some value else None
option_value setting (value ∷ second ∷ others) = None

-- the value of each option in the order of the table, by the values that are given to each name
abbrev pub values_by : List Setting → (Text → List Text) → Option (List Text)
values_by [] given = Some []
values_by (setting ∷ settings) given =
    option_and_then (λ value. option_map (λ values. value ∷ values) (values_by settings given)) (option_value setting (given setting.name))

-- the positional words, and behind them the value of each option
abbrev pub arguments_by : Usage → List Text → (Text → List Text) → Option (List Text)
arguments_by usage words given =
    if are_of usage.positionals words then option_map (λ values. words ++ values) (values_by usage.options given) else None

-- the arguments that pieces give
abbrev pub arguments_of : Usage → List Piece → Option (List Text)
arguments_of usage pieces = arguments_by usage (positional_words pieces) (λ name. values_of name pieces)

-- the row of this name
abbrev pub usage_named : List Usage → Text → Option Usage
usage_named usages name = find (λ (usage : Usage). bytes_eq usage.name name) usages

-- the arguments of a row, by the words behind its name
abbrev pub arguments_given : Usage → List Text → Option (List Text)
arguments_given usage words = option_and_then (arguments_of usage) (pieces_of (option_names usage) words None)

-- what the words of a call give by a table of commands: the first word names the row, and the others give its arguments
abbrev pub reading_of : List Usage → List Text → Option (Text × List Text)
reading_of usages [] = None
reading_of usages (name ∷ words) =
    option_and_then (λ (usage : Usage). option_map (λ arguments. (usage.name, arguments)) (arguments_given usage words)) (usage_named usages name)

-- ---- tables

-- an option's name has a byte at least, and no `=`
abbrev pub is_option_name : Text → Bool
is_option_name name = not (length name == 0) && not (list_any (λ code. code == byte "=") name)

-- each option of each row has a name that can be written
abbrev pub is_usage_table : List Usage → Bool
is_usage_table = list_all (λ (usage : Usage). list_all is_option_name (option_names usage))

-- ---- the same as the code writes it

abbrev pub setting_of : CodeSetting → Setting
setting_of setting = record { name = setting.name.now; kind = kind_written setting.kind; default = setting.default.now }

abbrev pub usage_of : CodeUsage → Usage
usage_of usage = record { name = usage.name.now; positionals = map kind_written usage.positionals.now; options = map setting_of usage.options.now }

-- the name and the arguments that were read
abbrev pub given_of : CodeGiven → Text × List Text
given_of given = (given.name.now, map (λ text. text.now) given.arguments.items)
