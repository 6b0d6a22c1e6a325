-- What a call may ask for, and which words ask for it.
use Rattle.std.specs.Prelude.{◌≡◌, ◌↔◌, ℕ, false, List, [], ◌∷◌, ◌++◌, All, Option, Some, None, option_and_then, find, codes, map, min, if◌then◌else◌}
use Rattle.std.specs.Str.{bytes_eq}
use Rattle.sg_words.specs.Words.{Text, Piece}
use Rattle.sg_words.specs.Kinds.{Kind, any, choice, number, number_read}
use Rattle.sg_words.specs.Usages.{Setting, Usage, arguments_of, option_names, reading_of}
use Rattle.sg_words.specs.Writing.{Spells}
use Rattle.sg_options.specs.declared.budget.Budget.{Budget}
use Rattle.sg_options.specs.declared.order.Order.{Order}
use Rattle.sg_options.specs.declared.order.Choice.{Choice}
use Rattle.sg_options.specs.declared.order.Choice.TheVariants.{Auto, Listed}
use Rattle.sg_options.specs.declared.order.Walk.{Walk}
use Rattle.sg_options.specs.declared.order.Walk.TheVariants.{Best, File, Seeded}
use Rattle.sg_options.specs.Options.{IsBudget, IsOrder}
use Rattle.sg_words.specs.declared.command.Command.{Command}
use Rattle.sg_words.specs.declared.command.Command.TheVariants.{Solve, Check, Show, Roster, Make}

-- what is asked for, with the texts that were given
pub data Asked : Type 0 where
  solve : (game : Text) (budget : Budget) (order : Order) → Asked
  check : (game report : Text) → Asked
  show : (game report : Text) → Asked
  roster : (game report : Text) (seed : ℕ) → Asked
  make : (shape : Text) (seed : ℕ) → Asked

-- a command's row, and what its arguments ask for
pub record Form : Type 0 where
  pub usage : Usage
  pub asked : List Text → Option Asked

-- exactly two arguments, in this order
abbrev pub with_two : (Text → Text → Asked) → List Text → Option Asked
with_two command (first ∷ second ∷ []) = Some (command first second)
with_two command _ = None

-- exactly one argument, and the number that a second writes
abbrev pub with_one_and_number : (Text → ℕ → Asked) → List Text → Option Asked
with_one_and_number command (first ∷ second ∷ []) = Some (command first (number_read second))
with_one_and_number command _ = None

-- exactly two arguments, and the number that a third writes
abbrev pub with_two_and_number : (Text → Text → ℕ → Asked) → List Text → Option Asked
with_two_and_number command (first ∷ second ∷ third ∷ []) = Some (command first second (number_read third))
with_two_and_number command _ = None

-- the walk that a word names
abbrev pub walk_read : Text → Walk
walk_read text = if bytes_eq text (codes "best") then Best else (if bytes_eq text (codes "seeded") then Seeded else File)

-- the family that a word names
abbrev pub family_read : Text → Choice
family_read text = if bytes_eq text (codes "listed") then Listed else Auto

-- the lanes that a text writes, of which there are at most 8
abbrev pub lanes_read : Text → ℕ
lanes_read text = min 8 (number_read text)

-- exactly one argument, and behind it the texts of a search: its nodes, moves and looks, its family, walk, lanes and seed
abbrev pub with_search : (Text → Budget → Order → Asked) → List Text → Option Asked
with_search command (first ∷ nodes ∷ pivots ∷ looks ∷ family ∷ walk ∷ lanes ∷ seed ∷ []) =
    Some (command first (record { nodes = number_read nodes; pivots = number_read pivots; looks = number_read looks })
    (record { walk = walk_read walk; lanes = lanes_read lanes; seed = number_read seed; family = family_read family }))
with_search command _ = None

-- a seed: a whole number below 2^64
abbrev pub seed_kind : Kind
seed_kind = number 0 18446744073709551615

-- the option `--seed`, and 0 where it isn't given
abbrev pub seed_setting : Setting
seed_setting = record { name = codes "seed"; kind = seed_kind; default = codes "0" }

-- the options of a search: how much work it may do, by which programs, in which order, and in how many lanes
abbrev pub search_settings : List Setting
search_settings = record { name = codes "nodes"; kind = number 1 1000000; default = codes "100000" }
    ∷ record { name = codes "pivots"; kind = number 1 1000000000; default = codes "100000" }
    ∷ record { name = codes "looks"; kind = number 1 1000000000000000000; default = codes "100000000" }
    ∷ record { name = codes "family"; kind = choice (codes "auto" ∷ codes "listed" ∷ []); default = codes "auto" }
    ∷ record { name = codes "order"; kind = choice (codes "file" ∷ codes "best" ∷ codes "seeded" ∷ []); default = codes "file" }
    ∷ record { name = codes "lanes"; kind = number 1 8; default = codes "1" }
    ∷ seed_setting
    ∷ []

-- the table of commands
abbrev pub forms : List Form
forms = record { usage = record { name = codes "solve"; positionals = any ∷ []; options = search_settings }; asked = with_search solve }
    ∷ record { usage = record { name = codes "check"; positionals = any ∷ any ∷ []; options = [] }; asked = with_two check }
    ∷ record { usage = record { name = codes "show"; positionals = any ∷ any ∷ []; options = [] }; asked = with_two show }
    ∷ record { usage = record { name = codes "roster"; positionals = any ∷ any ∷ []; options = seed_setting ∷ [] }; asked = with_two_and_number roster }
    ∷ record { usage = record { name = codes "make"; positionals = any ∷ seed_kind ∷ []; options = [] }; asked = with_one_and_number make }
    ∷ []

-- its rows
abbrev pub table : List Usage
table = map (λ (form : Form). form.usage) forms

-- what a command of this name asks for with these arguments
abbrev pub asked_by : Text → List Text → Option Asked
asked_by name arguments = option_and_then (λ (form : Form). form.asked arguments) (find (λ (form : Form). bytes_eq form.usage.name name) forms)

-- what the words of a call ask for: the first is the command's name
abbrev pub command_given : List Text → Option Asked
command_given words = option_and_then (λ given. asked_by given.0 given.1) (reading_of table words)

-- ---- how a command is written

-- The words ask for it: the first is the name of a row, the others spell pieces with the row's options, and the arguments that the
-- pieces give ask for it.
pub record Gives (words : List Text) (asked : Asked) : Type 0 where
  pub form : Form
  pub others : List Text
  pub pieces : List Piece
  pub arguments : List Text
  pub listed : find (λ (other : Form). bytes_eq other.usage.name form.usage.name) forms ≡ Some form
  pub named : words ≡ form.usage.name ∷ others
  pub spelled : Spells (option_names form.usage) pieces others
  pub given : arguments_of form.usage pieces ≡ Some arguments
  pub taken : form.asked arguments ≡ Some asked

-- ---- laws

-- reading is writing turned round
abbrev pub WordsGive : Type 0
WordsGive = (words : List Text) (asked : Asked) → (command_given words ≡ Some asked) ↔ Gives words asked

-- the budget and the order of a search, if any is asked for, are in their ranges
abbrev pub HasRangedOptions : Asked → Type 0
HasRangedOptions (solve game budget order) = IsBudget budget × IsOrder order
HasRangedOptions (check game report) = Unit {0}
HasRangedOptions (show game report) = Unit {0}
HasRangedOptions (roster game report seed) = Unit {0}
HasRangedOptions (make shape seed) = Unit {0}

-- and so are those of each command that words give
abbrev pub WordsAreInRange : Type 0
WordsAreInRange = (words : List Text) (asked : Asked) → command_given words ≡ Some asked → HasRangedOptions asked

-- ---- the program's own value

-- what a command of the program asks for
abbrev pub asked_of : Command → Asked
asked_of (Solve game budget order) = solve game.now budget order
asked_of (Check game report) = check game.now report.now
asked_of (Show game report) = show game.now report.now
asked_of (Roster game report seed) = roster game.now report.now seed
asked_of (Make shape seed) = make shape.now seed
