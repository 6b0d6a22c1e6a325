-- Lists of a game file: names, members that are named, and the schedules and resources.
use Rattle.std.specs.Prelude.{ℕ, suc, ◌+◌, ◌==◌, Bool, not, ◌||◌, nat_le, nat_lt, List, [], ◌∷◌, ◌++◌, map, length, Option, Result, Ok, codes, bytes_eq}
use Rattle.std.specs.List.{list_any, position_from}
use Rattle.toml.specs.Data.{Data, Items, no_items, item}
use Rattle.sg_model.specs.declared.limit.TheConstants.{RESOURCE_LIMIT, RESOURCE_SCHEDULE_LIMIT, SCHEDULE_LIMIT, SCHEDULE_TARGET_LIMIT}
use Rattle.sg_model.specs.declared.fault.Place.{Place}
use Rattle.sg_model.specs.declared.fault.Place.TheVariants.{Document, Schedule, Resource}
use Rattle.sg_model.specs.declared.fault.GameFault.{GameFault}
use Rattle.sg_model.specs.Games.{Named}
use Rattle.sg_model.specs.Steps.{◌>>=◌}
use Rattle.sg_format.specs.Steps.{needed, passed}
use Rattle.sg_model.specs.declared.reason.TheConstants.{UNKNOWN_KEY, EMPTY_LIST, UNKNOWN_NAME, REPEATED_NAME, TOO_LARGE}
use Rattle.sg_format.specs.Documents.{has_only, needed_at, text_at, items_at, table_at, name_at}

-- how many items there are
abbrev pub item_count : Items → ℕ
item_count no_items = 0
item_count (item value rest) = suc (item_count rest)

-- the items in order, each read by what those before it gave
unfoldable pub each : {A : Type 0} → (List A → Data → Result A GameFault) → List A → Items → Result (List A) GameFault
each read before no_items = Ok before
each read before (item value rest) = do
  next ← read before value
  each read (before ++ next ∷ []) rest

-- the items of an array of at most limit
unfoldable pub few_at : Place → ℕ → Data → Result Items GameFault
few_at place limit value = do
  items ← items_at place value
  few ← passed (nat_le (item_count items) limit) TOO_LARGE place
  Ok items

-- the items of an array of one to limit
unfoldable pub some_at : Place → ℕ → Data → Result Items GameFault
some_at place limit value = do
  items ← items_at place value
  some ← passed (nat_lt 0 (item_count items)) EMPTY_LIST place
  few ← passed (nat_le (item_count items) limit) TOO_LARGE place
  Ok items

-- a name that isn't among those before it
unfoldable pub new_name : Place → List (List ℕ) → Data → Result (List ℕ) GameFault
new_name place before value = do
  name ← name_at place value
  new ← passed (not (list_any (bytes_eq name) before)) REPEATED_NAME place
  Ok name

-- one to limit names, no two the same: faults of the array stand at whole, and those of the n-th name at place n
unfoldable pub names_at : Place → (ℕ → Place) → ℕ → Data → Result (List (List ℕ)) GameFault
names_at whole place limit value = do
  items ← some_at whole limit value
  each (λ before entry. new_name (place (length before + 1)) before entry) [] items

-- the number, counted from 1, of the first of the names that is this one
abbrev pub number_of : List ℕ → List (List ℕ) → Option ℕ
number_of name names = position_from (bytes_eq name) 1 names

-- the number of one of the known names
unfoldable pub known_at : Place → List (List ℕ) → Data → Result ℕ GameFault
known_at place known value = do
  name ← text_at place value
  needed (number_of name known) UNKNOWN_NAME place

-- the number of one of the known names, which isn't among the numbers before it
unfoldable pub member_at : Place → List (List ℕ) → List ℕ → Data → Result ℕ GameFault
member_at place known before value = do
  number ← known_at place known value
  new ← passed (not (list_any (λ other. other == number) before)) REPEATED_NAME place
  Ok number

-- the numbers of one to limit of the known names, no two the same
unfoldable pub members_at : Place → List (List ℕ) → ℕ → Data → Result (List ℕ) GameFault
members_at place known limit value = do
  items ← some_at place limit value
  each (member_at place known) [] items

-- the keys of a schedule or a resource: its name, and the key of its members
abbrev pub is_named_key : List ℕ → List ℕ → Bool
is_named_key members_key key = bytes_eq key (codes "name") || bytes_eq key members_key

-- a table with a new name and, at the key, one to limit of the known names
unfoldable pub named_at : Place → List ℕ → List (List ℕ) → ℕ → List Named → Data → Result Named GameFault
named_at place key known limit before value = do
  table ← table_at place value
  keys ← passed (has_only (is_named_key key) table) UNKNOWN_KEY place
  own ← needed_at place (codes "name") table
  listed ← needed_at place key table
  name ← new_name place (map (λ (x : Named). x.name) before) own
  members ← members_at place known limit listed
  Ok (record { name = name; members = members })

-- at most limit such tables: the n-th stands at place n
unfoldable pub named_lists_at : (ℕ → Place) → List ℕ → List (List ℕ) → ℕ → ℕ → Data → Result (List Named) GameFault
named_lists_at place key known limit members_limit value = do
  items ← few_at Document limit value
  each (λ before. named_at (place (length before + 1)) key known members_limit before) [] items

-- at most 500 schedules, each with a name and one to 200 of the targets
abbrev pub schedules_at : List (List ℕ) → Data → Result (List Named) GameFault
schedules_at targets value = named_lists_at Schedule (codes "targets") targets SCHEDULE_LIMIT SCHEDULE_TARGET_LIMIT value

-- at most 32 resources, each with a name and one to 500 of the schedules
abbrev pub resources_at : List Named → Data → Result (List Named) GameFault
resources_at schedules value = named_lists_at Resource (codes "schedules") (map (λ (x : Named). x.name) schedules) RESOURCE_LIMIT RESOURCE_SCHEDULE_LIMIT value
