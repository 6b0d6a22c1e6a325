-- What each reason means, over all parts of a document: where the first value that isn't the one of a game's document breaks its rule, the document is refused for it, at the part's place.
use Rattle.std.specs.Prelude.{◌≡◌, ◌≢◌, ◌⊎◌, ℕ, ◌+◌, ◌-◌, ◌*◌, ◌^◌, ◌<◌, ◌≤◌, Bool, true, false, List, [], length, ℤ, pos, ◌<ℤ◌, Option, Some, None, is_some, Ok, All, Contains, bytes_eq, codes}
use Rattle.std.specs.List.{list_any}
use Rattle.toml.specs.Data.{Data, Items, Members, array, as_array, as_integer, as_str, as_table, get_member, integer, item, no_items, string, table}
use Rattle.sg_model.specs.declared.limit.TheConstants.{PATROL_LIMIT, PROGRAM_ROW_LIMIT}
use Rattle.sg_model.specs.Names.{is_name}
use Rattle.sg_model.specs.Games.{Game, Payoff, attacker, payoff, resource_count}
use Rattle.sg_model.specs.declared.kind.Kind.TheVariants.{Security}
use Rattle.sg_format.specs.Changes.{DiffersAt, list_fault}
use Rattle.sg_model.specs.Limits.{IsPayoff, IsWithin, is_scaled}
use Rattle.sg_model.specs.Origami.{IsScaled}
use Rattle.sg_model.specs.declared.fault.Place.TheVariants as place_of
use Rattle.sg_format.specs.Steps.{refused}
use Rattle.sg_model.specs.declared.reason.TheConstants.{MISSING_KEY, WRONG_KIND, UNKNOWN_KEY, EMPTY_LIST, UNKNOWN_NAME, REPEATED_NAME, OUT_OF_RANGE, TOO_LARGE, BAD_SCALE}
use Rattle.sg_format.specs.Documents.{has_only}
use Rattle.sg_format.specs.Lists.{item_count}
use Rattle.sg_format.specs.GameFiles.{game_of_table}
use Rattle.sg_format.specs.Parts.{AgreesUpTo, Part, Rule, DiffersIn, part_place, part_rule, no_rule, number_within, name_besides, known_besides, few_entries, some_entries, entries_exactly, table_with, scale, typed, type_pays, of_targets, pay_row}

-- a document that differs from that of a game in one part alone agrees with it up to that part
abbrev pub SingleChangeAgrees : Type 0
SingleChangeAgrees = (first second : Members) (g : Game) (part : Part) (value : Data) → DiffersIn g part value first second → AgreesUpTo g part value first second

-- the document is refused for this reason, at the place of this part
abbrev pub IsRefusedAt : Game → Part → ℕ → Members → Type 0
IsRefusedAt g part reason document = game_of_table document ≡ refused reason (part_place g.kind part)

-- the value is of the kind that the rule asks for
abbrev pub is_of_kind : Rule → Data → Bool
is_of_kind no_rule value = true
is_of_kind (number_within low high) value = is_some (as_integer value)
is_of_kind (name_besides others) value = is_some (as_str value)
is_of_kind (known_besides known others) value = is_some (as_str value)
is_of_kind (few_entries limit) value = is_some (as_array value)
is_of_kind (some_entries limit) value = is_some (as_array value)
is_of_kind (entries_exactly n) value = is_some (as_array value)
is_of_kind (table_with keys) value = is_some (as_table value)

-- the names that stand before a name in its list
abbrev pub names_before : Rule → List (List ℕ)
names_before no_rule = []
names_before (number_within low high) = []
names_before (name_besides others) = others
names_before (known_besides known others) = others
names_before (few_entries limit) = []
names_before (some_entries limit) = []
names_before (entries_exactly n) = []
names_before (table_with keys) = []

-- how many entries an array may have
abbrev pub most_entries : Rule → Option ℕ
most_entries no_rule = None
most_entries (number_within low high) = None
most_entries (name_besides others) = None
most_entries (known_besides known others) = None
most_entries (few_entries limit) = Some limit
most_entries (some_entries limit) = Some limit
most_entries (entries_exactly n) = None
most_entries (table_with keys) = None

-- a value of another kind
abbrev pub WrongKindIsRefused : Type 0
WrongKindIsRefused = (first second : Members) (g : Game) (part : Part) (value : Data) → game_of_table first ≡ Ok g → AgreesUpTo g part value first second
    → is_of_kind (part_rule g part) value ≡ false → IsRefusedAt g part WRONG_KIND second

-- a table with a key that isn't one of its own
abbrev pub UnknownFieldIsRefused : Type 0
UnknownFieldIsRefused = (first second members : Members) (g : Game) (part : Part) (keys : List (List ℕ)) (key : List ℕ) (value : Data) → game_of_table first ≡ Ok g
    → AgreesUpTo g part (table members) first second → part_rule g part ≡ table_with keys → get_member key members ≡ Some value → list_any (bytes_eq key) keys ≡ false
    → IsRefusedAt g part UNKNOWN_KEY second

-- a table without one of its keys, and with no other key
abbrev pub MissingFieldIsRefused : Type 0
MissingFieldIsRefused = (first second members : Members) (g : Game) (part : Part) (keys : List (List ℕ)) (key : List ℕ) → game_of_table first ≡ Ok g
    → AgreesUpTo g part (table members) first second → part_rule g part ≡ table_with keys → has_only (λ k. list_any (bytes_eq k) keys) members ≡ true
    → list_any (bytes_eq key) keys ≡ true → get_member key members ≡ None → IsRefusedAt g part MISSING_KEY second

-- no entries in an array that needs one
abbrev pub EmptyPartIsRefused : Type 0
EmptyPartIsRefused = (first second : Members) (g : Game) (part : Part) (limit : ℕ) → game_of_table first ≡ Ok g → AgreesUpTo g part (array no_items) first second
    → part_rule g part ≡ some_entries limit → IsRefusedAt g part EMPTY_LIST second

-- a name that nothing has
abbrev pub UnknownNameIsRefused : Type 0
UnknownNameIsRefused = (first second : Members) (g : Game) (part : Part) (known others : List (List ℕ)) (text : List ℕ) → game_of_table first ≡ Ok g
    → AgreesUpTo g part (string text) first second → part_rule g part ≡ known_besides known others → All (λ other. text ≢ other) known → IsRefusedAt g part UNKNOWN_NAME second

-- a name that stands before it in its list
abbrev pub RepeatedNameIsRefused : Type 0
RepeatedNameIsRefused = (first second : Members) (g : Game) (part : Part) (text : List ℕ) → game_of_table first ≡ Ok g → AgreesUpTo g part (string text) first second
    → Contains (names_before (part_rule g part)) text → IsRefusedAt g part REPEATED_NAME second

-- a number outside its range, a name in a wrong spelling, or an array of a wrong length
pub record OutOfRangeIsRefused : Type 0 where
  pub number : (first second : Members) (g : Game) (part : Part) (low high z : ℤ) → game_of_table first ≡ Ok g → AgreesUpTo g part (integer z) first second
      → part_rule g part ≡ number_within low high → (z <ℤ low) ⊎ (high <ℤ z) → IsRefusedAt g part OUT_OF_RANGE second
  pub spelling : (first second : Members) (g : Game) (part : Part) (others : List (List ℕ)) (text : List ℕ) → game_of_table first ≡ Ok g → AgreesUpTo g part (string text) first second
      → part_rule g part ≡ name_besides others → is_name text ≡ false → IsRefusedAt g part OUT_OF_RANGE second
  pub size : (first second : Members) (g : Game) (part : Part) (n : ℕ) (items : Items) → game_of_table first ≡ Ok g → AgreesUpTo g part (array items) first second
      → part_rule g part ≡ entries_exactly n → item_count items ≢ n → IsRefusedAt g part OUT_OF_RANGE second

-- more entries than the array may have
abbrev pub LongPartIsRefused : Type 0
LongPartIsRefused = (first second : Members) (g : Game) (part : Part) (limit : ℕ) (items : Items) → game_of_table first ≡ Ok g → AgreesUpTo g part (array items) first second
    → most_entries (part_rule g part) ≡ Some limit → limit < item_count items → IsRefusedAt g part TOO_LARGE second

-- the payoffs at a target as they stand in a file
abbrev pub payoff_array : Payoff → Data
payoff_array p = array (item (integer p.dc) (item (integer p.du) (item (integer p.ac) (item (integer p.au) no_items))))

-- a scale that the payoffs at some target don't fit, or payoffs at a target that don't fit the scale
pub record BadScaleIsRefused : Type 0 where
  -- another scale, or one where none was declared, for patrols and one type of prior 1
  pub declared : (first second : Members) (g : Game) (z : ℤ) (t : ℕ) → game_of_table first ≡ Ok g → DiffersIn g scale (integer z) first second → g.patrols ≢ None
      → length g.types ≡ 1 → (attacker g 1).prior ≡ pos 1 → IsWithin (pos 1) (pos (2 ^ 32)) z → 1 ≤ t → t ≤ length g.goals → ¬ (IsScaled z (payoff g 1 t))
      → game_of_table second ≡ refused BAD_SCALE (place_of.Attacker 1)
  -- other payoffs at target t
  pub payoffs : (first second : Members) (g : Game) (t : ℕ) (p : Payoff) → game_of_table first ≡ Ok g → is_scaled g ≡ true
      → DiffersIn g (typed 1 (type_pays of_targets (pay_row t))) (payoff_array p) first second → IsPayoff p → ¬ (IsScaled g.scale p) → game_of_table second ≡ refused BAD_SCALE (place_of.Attacker 1)

-- the rows of the largest linear program of a game in security form, of so many resources, targets and types
abbrev pub rows_for : ℕ → ℕ → ℕ → ℕ
rows_for resources targets types = 1 + resources + 2 * targets + types * (targets - 1)

-- values that are right one by one, but make the linear program of a game in security form without a scale too large
pub record LongProgramIsRefused : Type 0 where
  -- other types
  pub types : (first second : Members) (g : Game) (items : Items) → game_of_table first ≡ Ok g → g.kind ≡ Security → is_scaled g ≡ false
      → DiffersAt (codes "type") (Some (array items)) first second → list_fault g.kind g.patrols g (codes "type") (array items) ≡ None
      → PROGRAM_ROW_LIMIT < rows_for (resource_count g) (length g.goals) (item_count items) → game_of_table second ≡ refused TOO_LARGE place_of.Document
  -- more patrols
  pub patrols : (first second : Members) (g : Game) (n : ℕ) → game_of_table first ≡ Ok g → g.patrols ≢ None → is_scaled g ≡ false
      → DiffersAt (codes "patrols") (Some (integer (pos n))) first second → n ≤ PATROL_LIMIT → PROGRAM_ROW_LIMIT < rows_for n (length g.goals) (length g.types) → game_of_table second ≡ refused TOO_LARGE place_of.Document
  -- other resources
  pub resources : (first second : Members) (g : Game) (items : Items) → game_of_table first ≡ Ok g → g.kind ≡ Security → g.patrols ≡ None
      → DiffersAt (codes "resource") (Some (array items)) first second → list_fault g.kind g.patrols g (codes "resource") (array items) ≡ None
      → PROGRAM_ROW_LIMIT < rows_for (item_count items) (length g.goals) (length g.types) → game_of_table second ≡ refused TOO_LARGE place_of.Document
