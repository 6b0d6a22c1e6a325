-- The parts of a game's document, each with the rule that its value keeps and the place at which a fault of it is told: the table of the format.
use Rattle.sg_format.specs.Lists.{item_count}
use Rattle.std.specs.Prelude.{◌≡◌, ◌≢◌, ◌<◌, is_some, true, bytes_eq, ℕ, zero, suc, ◌-◌, ◌^◌, Bool, false, if◌then◌else◌, List, [], ◌∷◌, map, length, take, ℤ, pos, ◌-ℤ◌, Option, Some, None, codes}
use Rattle.toml.specs.Data.{Data, Items, Members, no_items, item, get_item, get_member, array, table}
use Rattle.sg_model.specs.declared.limit.TheConstants.{ACTION_LIMIT, PATROL_LIMIT, PAYOFF_LIMIT, PRIOR_LIMIT, RESOURCE_LIMIT, RESOURCE_SCHEDULE_LIMIT, ROW_LIMIT, SCALED_PATROL_LIMIT, SCALED_TARGET_LIMIT, SCALE_LIMIT, SCHEDULE_LIMIT, SCHEDULE_TARGET_LIMIT, TARGET_LIMIT, TYPE_LIMIT}
use Rattle.sg_model.specs.declared.fault.Place.{Place}
use Rattle.sg_model.specs.declared.fault.Place.TheVariants as place_of
use Rattle.sg_model.specs.declared.kind.Kind.{Kind}
use Rattle.sg_model.specs.declared.kind.Kind.TheVariants.{Security, Matrix}
use Rattle.sg_model.specs.Sums.{nth}
use Rattle.sg_model.specs.Games.{Attacker, Game, Named, attacker, unnamed}
use Rattle.sg_model.specs.Limits.{is_scaled}
use Rattle.sg_model.specs.Places.{goal_place}
use Rattle.sg_format.specs.GameText.{goals_key}
use Rattle.sg_format.specs.Changes.{DiffersAt}

-- a part of a list of names: the list, or its n-th name, counted from 1
pub data NamesPart : Type 0 where
  names : NamesPart
  name : ℕ → NamesPart

-- a part of a table of payoffs: the table, its r-th row, or the i-th number of that
pub data PaysPart : Type 0 where
  pays : PaysPart
  pay_row : ℕ → PaysPart
  pay : ℕ → ℕ → PaysPart

-- the tables of payoffs: that of the security form, and the two of the matrix form
pub data Pays : Type 0 where
  of_targets : Pays
  of_leader : Pays
  of_follower : Pays

-- a part of a type of attacker: its table, its name, its prior, its actions and its payoffs
pub data TypePart : Type 0 where
  whole_type : TypePart
  type_name : TypePart
  type_prior : TypePart
  type_actions : NamesPart → TypePart
  type_pays : Pays → PaysPart → TypePart

-- the two lists of tables whose members are named: schedules name targets, resources name schedules
pub data Group : Type 0 where
  schedules : Group
  resources : Group

-- a part of a schedule or a resource: its table, its name and its members
pub data NamedPart : Type 0 where
  whole_named : NamedPart
  own_name : NamedPart
  members : NamesPart → NamedPart

-- a part of the document of a game
pub data Part : Type 0 where
  -- of the list of targets or rows
  goals : NamesPart → Part
  scale : Part
  patrols : Part
  -- the list of schedules or resources, and a part of its n-th
  groups : Group → Part
  grouped : Group → ℕ → NamedPart → Part
  -- the list of types, and a part of its n-th
  types : Part
  typed : ℕ → TypePart → Part

-- a way from a value to one in it: to the value at a key of a table, or to an entry of an array by its number from 1
pub data Step : Type 0 where
  at_key : List ℕ → Step
  at_number : ℕ → Step

-- where a part of a list of names stands in it
abbrev pub names_path : NamesPart → List Step
names_path names = []
names_path (name n) = at_number n ∷ []

-- where a part of a table of payoffs stands in it
abbrev pub pays_path : PaysPart → List Step
pays_path pays = []
pays_path (pay_row r) = at_number r ∷ []
pays_path (pay r i) = at_number r ∷ at_number i ∷ []

-- the key of a table of payoffs
abbrev pub pays_key : Pays → List ℕ
pays_key of_targets = codes "payoffs"
pays_key of_leader = codes "leader"
pays_key of_follower = codes "follower"

-- where a part of a type stands in it
abbrev pub type_path : TypePart → List Step
type_path whole_type = []
type_path type_name = at_key (codes "name") ∷ []
type_path type_prior = at_key (codes "prior") ∷ []
type_path (type_actions part) = at_key (codes "actions") ∷ names_path part
type_path (type_pays which part) = at_key (pays_key which) ∷ pays_path part

-- the top key of the schedules or the resources
abbrev pub group_key : Group → List ℕ
group_key schedules = codes "schedule"
group_key resources = codes "resource"

-- the key of the members of a schedule or a resource
abbrev pub members_key : Group → List ℕ
members_key schedules = codes "targets"
members_key resources = codes "schedules"

-- where a part of a schedule or a resource stands in it
abbrev pub named_path : Group → NamedPart → List Step
named_path group whole_named = []
named_path group own_name = at_key (codes "name") ∷ []
named_path group (members part) = at_key (members_key group) ∷ names_path part

-- where a part stands below the top table
abbrev pub part_path : Kind → Part → List Step
part_path kind (goals part) = at_key (goals_key kind) ∷ names_path part
part_path kind scale = at_key (codes "scale") ∷ []
part_path kind patrols = at_key (codes "patrols") ∷ []
part_path kind (groups group) = at_key (group_key group) ∷ []
part_path kind (grouped group n part) = at_key (group_key group) ∷ at_number n ∷ named_path group part
part_path kind types = at_key (codes "type") ∷ []
part_path kind (typed n part) = at_key (codes "type") ∷ at_number n ∷ type_path part

-- the place of the n-th schedule or resource
abbrev pub group_place : Group → ℕ → Place
group_place schedules n = place_of.Schedule n
group_place resources n = place_of.Resource n

-- the place at which a fault of a part is told
abbrev pub part_place : Kind → Part → Place
part_place kind (goals names) = place_of.Document
part_place kind (goals (name n)) = goal_place kind n
part_place kind scale = place_of.Document
part_place kind patrols = place_of.Document
part_place kind (groups group) = place_of.Document
part_place kind (grouped group n part) = group_place group n
part_place kind types = place_of.Document
part_place kind (typed n part) = place_of.Attacker n

-- what a value keeps
pub data Rule : Type 0 where
  -- there is no such part
  no_rule : Rule
  -- an integer from low to high
  number_within : ℤ → ℤ → Rule
  -- a name in the right spelling, which is none of those before it
  name_besides : List (List ℕ) → Rule
  -- one of the known names, which is none of those before it
  known_besides : List (List ℕ) → List (List ℕ) → Rule
  -- an array of at most so many entries
  few_entries : ℕ → Rule
  -- an array of one to so many entries
  some_entries : ℕ → Rule
  -- an array of so many entries
  entries_exactly : ℕ → Rule
  -- a table with these keys and no other
  table_with : List (List ℕ) → Rule

-- those that stand before the n-th, counted from 1
abbrev pub before : {X : Type 0} → ℕ → List X → List X
before n xs = take (n - 1) xs

-- one to limit names, no two the same
abbrev pub names_rule : ℕ → List (List ℕ) → NamesPart → Rule
names_rule limit all names = some_entries limit
names_rule limit all (name n) = name_besides (before n all)

-- one to limit of the known names, no two the same
abbrev pub members_rule : ℕ → List (List ℕ) → List ℕ → NamesPart → Rule
members_rule limit known numbers names = some_entries limit
members_rule limit known numbers (name n) = known_besides known (map (λ m. nth known m []) (before n numbers))

-- so many rows of so many payoffs from -2^30 to 2^30
abbrev pub pays_rule : ℕ → ℕ → PaysPart → Rule
pays_rule rows columns pays = entries_exactly rows
pays_rule rows columns (pay_row r) = entries_exactly columns
pays_rule rows columns (pay r i) = number_within (pos 0 -ℤ PAYOFF_LIMIT) PAYOFF_LIMIT

-- a type in security form, whose name is none of those before it, against so many targets; its prior is 1 where a scale is declared
abbrev pub security_type_rule : Bool → ℕ → List (List ℕ) → TypePart → Rule
security_type_rule scaled targets others whole_type = table_with (codes "name" ∷ codes "prior" ∷ codes "payoffs" ∷ [])
security_type_rule scaled targets others type_name = name_besides others
security_type_rule scaled targets others type_prior = number_within (pos 1) (if scaled then pos 1 else PRIOR_LIMIT)
security_type_rule scaled targets others (type_actions part) = no_rule
security_type_rule scaled targets others (type_pays of_targets part) = pays_rule targets 4 part
security_type_rule scaled targets others (type_pays of_leader part) = no_rule
security_type_rule scaled targets others (type_pays of_follower part) = no_rule

-- a type in matrix form with these actions, whose name is none of those before it, against so many rows
abbrev pub matrix_type_rule : ℕ → List (List ℕ) → List (List ℕ) → TypePart → Rule
matrix_type_rule rows actions others whole_type = table_with (codes "name" ∷ codes "prior" ∷ codes "actions" ∷ codes "leader" ∷ codes "follower" ∷ [])
matrix_type_rule rows actions others type_name = name_besides others
matrix_type_rule rows actions others type_prior = number_within (pos 1) PRIOR_LIMIT
matrix_type_rule rows actions others (type_actions part) = names_rule ACTION_LIMIT actions part
matrix_type_rule rows actions others (type_pays of_targets part) = no_rule
matrix_type_rule rows actions others (type_pays of_leader part) = pays_rule rows (length actions) part
matrix_type_rule rows actions others (type_pays of_follower part) = pays_rule rows (length actions) part

-- a schedule or a resource with these members, one to limit of the known names, whose own name is none of those before it
abbrev pub named_rule : List ℕ → ℕ → List (List ℕ) → List ℕ → List (List ℕ) → NamedPart → Rule
named_rule key limit known numbers others whole_named = table_with (codes "name" ∷ key ∷ [])
named_rule key limit known numbers others own_name = name_besides others
named_rule key limit known numbers others (members part) = members_rule limit known numbers part

-- the names of schedules or resources
abbrev pub names_of : List Named → List (List ℕ)
names_of xs = map (λ (x : Named). x.name) xs

-- the names of the types before the n-th
abbrev pub types_before : ℕ → Game → List (List ℕ)
types_before n g = map (λ (x : Attacker). x.name) (before n g.types)

-- the rule of a part in matrix form
abbrev pub matrix_rule : Game → Part → Rule
matrix_rule g (goals part) = names_rule ROW_LIMIT g.goals part
matrix_rule g scale = no_rule
matrix_rule g patrols = no_rule
matrix_rule g (groups group) = no_rule
matrix_rule g (grouped group n part) = no_rule
matrix_rule g types = some_entries TYPE_LIMIT
matrix_rule g (typed n part) = matrix_type_rule (length g.goals) (attacker g n).actions (types_before n g) part

-- the rule of a part of a game of identical patrols; a declared scale allows more targets and patrols, and one type
abbrev pub patrols_rule : Bool → Game → Part → Rule
patrols_rule scaled g (goals part) = names_rule (if scaled then SCALED_TARGET_LIMIT else TARGET_LIMIT) g.goals part
patrols_rule scaled g scale = number_within (pos 1) SCALE_LIMIT
patrols_rule scaled g patrols = number_within (pos 0) (pos (if scaled then SCALED_PATROL_LIMIT else PATROL_LIMIT))
patrols_rule scaled g (groups group) = no_rule
patrols_rule scaled g (grouped group n part) = no_rule
patrols_rule scaled g types = some_entries (if scaled then 1 else TYPE_LIMIT)
patrols_rule scaled g (typed n part) = security_type_rule scaled (length g.goals) (types_before n g) part

-- the rule of a part of a game of listed schedules and resources
abbrev pub listed_rule : Game → Part → Rule
listed_rule g (goals part) = names_rule TARGET_LIMIT g.goals part
listed_rule g scale = no_rule
listed_rule g patrols = no_rule
listed_rule g (groups schedules) = few_entries SCHEDULE_LIMIT
listed_rule g (groups resources) = few_entries RESOURCE_LIMIT
listed_rule g (grouped schedules n part) = named_rule (codes "targets") SCHEDULE_TARGET_LIMIT g.goals (nth g.schedules n unnamed).members (names_of (before n g.schedules)) part
listed_rule g (grouped resources n part) = named_rule (codes "schedules") RESOURCE_SCHEDULE_LIMIT (names_of g.schedules) (nth g.resources n unnamed).members (names_of (before n g.resources)) part
listed_rule g types = some_entries TYPE_LIMIT
listed_rule g (typed n part) = security_type_rule false (length g.goals) (types_before n g) part

-- the rule of a part, by the form of the game
abbrev pub rule_by : Kind → Option ℕ → Game → Part → Rule
rule_by Matrix count g part = matrix_rule g part
rule_by Security (Some n) g part = patrols_rule (is_scaled g) g part
rule_by Security None g part = listed_rule g part

-- the rule that the value of a part keeps in the document of a game
abbrev pub part_rule : Game → Part → Rule
part_rule g part = rule_by g.kind g.patrols g part

-- the items, with another one at an index
abbrev pub set_item : ℕ → Data → Items → Items
set_item n value no_items = no_items
set_item zero value (item first rest) = item value rest
set_item (suc n) value (item first rest) = item first (set_item n value rest)

-- the second value is a table that differs at one key alone from the first one, by this change there
pub record ChangesKey (key : List ℕ) (Change : Option Data → Data → Type 0) (first : Option Data) (second : Data) : Type 0 where
  pub old : Members
  pub new : Members
  pub was : first ≡ Some (table old)
  pub is : second ≡ table new
  pub value : Data
  pub differs : DiffersAt key (Some value) old new
  pub change : Change (get_member key old) value

-- the second value is an array that differs at its n-th entry alone from the first one, by this change there
pub record ChangesEntry (n : ℕ) (Change : Option Data → Data → Type 0) (first : Option Data) (second : Data) : Type 0 where
  pub index : ℕ
  pub number : n ≡ suc index
  pub items : Items
  pub entry : Data
  pub was : first ≡ Some (array items)
  pub there : get_item index items ≡ Some entry
  pub value : Data
  pub is : second ≡ array (set_item index value items)
  pub change : Change (Some entry) value

-- the second value differs from the first one at the end of a path alone, and has this value there
abbrev pub Changes : List Step → Data → Option Data → Data → Type 0
Changes [] value first second = second ≡ value
Changes (at_key key ∷ path) value first second = ChangesKey key (Changes path value) first second
Changes (at_number n ∷ path) value first second = ChangesEntry n (Changes path value) first second

-- a document that differs from that of a game in one part alone, and has this value there
abbrev pub DiffersIn : Game → Part → Data → Members → Members → Type 0
DiffersIn g part value first second = Changes (part_path g.kind part) value (Some (table first)) (table second)

-- the keys of all tables, each behind those that are read before it
abbrev pub reading_order : List (List ℕ)
reading_order =
    codes "version" ∷ codes "form" ∷ codes "name" ∷ codes "prior" ∷ codes "targets" ∷ codes "rows" ∷ codes "scale" ∷ codes "patrols" ∷ codes "schedule" ∷ codes "resource" ∷ codes "type"
    ∷ codes "payoffs" ∷ codes "actions" ∷ codes "leader" ∷ codes "follower" ∷ codes "schedules" ∷ []

-- the first key stands before the second one among these
abbrev pub stands_before : List ℕ → List ℕ → List (List ℕ) → Bool
stands_before first second [] = false
stands_before first second (key ∷ keys) = if bytes_eq second key then false else if bytes_eq first key then true else stands_before first second keys

-- whether a key is read before another one
abbrev pub is_read_before : List ℕ → List ℕ → Bool
is_read_before first second = stands_before first second reading_order

-- the second value is a table with the other keys of the first one and with its values at the keys that are read before this one; at this key the two agree in their way
pub record AgreesAtKey (key : List ℕ) (Agree : Option Data → Data → Type 0) (first : Option Data) (second : Data) : Type 0 where
  pub old : Members
  pub new : Members
  pub was : first ≡ Some (table old)
  pub is : second ≡ table new
  pub value : Data
  pub here : get_member key new ≡ Some value
  pub earlier : (other : List ℕ) → is_read_before other key ≡ true → get_member other new ≡ get_member other old
  pub keys : (other : List ℕ) → other ≢ key → is_some (get_member other new) ≡ is_some (get_member other old)
  pub agree : Agree (get_member key old) value

-- the second value is an array with as many entries as the first one and with the same entries before the n-th; at the n-th the two agree in their way
pub record AgreesAtEntry (n : ℕ) (Agree : Option Data → Data → Type 0) (first : Option Data) (second : Data) : Type 0 where
  pub index : ℕ
  pub number : n ≡ suc index
  pub old : Items
  pub new : Items
  pub was : first ≡ Some (array old)
  pub is : second ≡ array new
  pub entry : Data
  pub there : get_item index old ≡ Some entry
  pub value : Data
  pub here : get_item index new ≡ Some value
  pub earlier : (i : ℕ) → i < index → get_item i new ≡ get_item i old
  pub size : item_count new ≡ item_count old
  pub agree : Agree (Some entry) value

-- the second value agrees with the first one in all that is read before the end of a path, and has this value there
abbrev pub Agrees : List Step → Data → Option Data → Data → Type 0
Agrees [] value first second = second ≡ value
Agrees (at_key key ∷ path) value first second = AgreesAtKey key (Agrees path value) first second
Agrees (at_number n ∷ path) value first second = AgreesAtEntry n (Agrees path value) first second

-- a document that agrees with that of a game in all that is read before one part, and has this value there, whatever comes behind it
abbrev pub AgreesUpTo : Game → Part → Data → Members → Members → Type 0
AgreesUpTo g part value first second = Agrees (part_path g.kind part) value (Some (table first)) (table second)
