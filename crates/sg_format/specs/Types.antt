-- The types of attacker of a game file, with their payoffs.
use Rattle.std.specs.Prelude.{ℕ, ◌+◌, ◌^◌, ◌==◌, Bool, false, ◌||◌, List, [], map, length, ℤ, pos, ◌-ℤ◌, slice_index_or, Result, Ok, codes, bytes_eq, if◌then◌else◌}
use Rattle.toml.specs.Data.{Data}
use Rattle.sg_model.specs.declared.limit.TheConstants.{ACTION_LIMIT, PAYOFF_LIMIT, PRIOR_LIMIT, TYPE_LIMIT}
use Rattle.sg_model.specs.declared.fault.Place.{Place}
use Rattle.sg_model.specs.declared.fault.Place.TheVariants as place_of
use Rattle.sg_model.specs.declared.fault.GameFault.{GameFault}
use Rattle.sg_model.specs.Games.{Payoff, Attacker, payoff_of}
use Rattle.sg_model.specs.Steps.{◌>>=◌}
use Rattle.sg_format.specs.Steps.{passed}
use Rattle.sg_model.specs.declared.reason.TheConstants.{UNKNOWN_KEY, OUT_OF_RANGE}
use Rattle.sg_format.specs.Documents.{has_only, needed_at, items_at, table_at, number_at}
use Rattle.sg_format.specs.Lists.{item_count, each, some_at, new_name, names_at}

-- a payoff
abbrev pub pay_at : Place → Data → Result ℤ GameFault
pay_at place value = number_at place (pos 0 -ℤ PAYOFF_LIMIT) PAYOFF_LIMIT value

-- so many payoffs
unfoldable pub pays_at : Place → ℕ → Data → Result (List ℤ) GameFault
pays_at place count value = do
  items ← items_at place value
  long ← passed (item_count items == count) OUT_OF_RANGE place
  each (λ before. pay_at place) [] items

-- so many lists of so many payoffs
unfoldable pub pay_table_at : Place → ℕ → ℕ → Data → Result (List (List ℤ)) GameFault
pay_table_at place rows columns value = do
  items ← items_at place value
  long ← passed (item_count items == rows) OUT_OF_RANGE place
  each (λ before. pays_at place columns) [] items

-- the keys of a type in security form
abbrev pub is_security_type_key : List ℕ → Bool
is_security_type_key key = bytes_eq key (codes "name") || bytes_eq key (codes "prior") || bytes_eq key (codes "payoffs")

-- the keys of a type in matrix form
abbrev pub is_matrix_type_key : List ℕ → Bool
is_matrix_type_key key = bytes_eq key (codes "name") || bytes_eq key (codes "prior") || bytes_eq key (codes "actions")
    || bytes_eq key (codes "leader") || bytes_eq key (codes "follower")

-- how often a type comes: 1 where a scale is declared, else up to 2^20
abbrev pub prior_at : Place → Bool → Data → Result ℤ GameFault
prior_at place scaled value = number_at place (pos 1) (if scaled then pos 1 else PRIOR_LIMIT) value

-- a type of attacker against so many targets
unfoldable pub security_type_at : Place → Bool → ℕ → List Attacker → Data → Result Attacker GameFault
security_type_at place scaled targets before value = do
  table ← table_at place value
  keys ← passed (has_only is_security_type_key table) UNKNOWN_KEY place
  own ← needed_at place (codes "name") table
  weight ← needed_at place (codes "prior") table
  listed ← needed_at place (codes "payoffs") table
  name ← new_name place (map (λ (x : Attacker). x.name) before) own
  prior ← prior_at place scaled weight
  payoffs ← pay_table_at place targets 4 listed
  Ok (record { name = name; prior = prior; payoffs = map payoff_of payoffs; actions = []; leader = []; follower = [] })

-- a type of attacker against so many rows
unfoldable pub matrix_type_at : Place → ℕ → List Attacker → Data → Result Attacker GameFault
matrix_type_at place rows before value = do
  table ← table_at place value
  keys ← passed (has_only is_matrix_type_key table) UNKNOWN_KEY place
  own ← needed_at place (codes "name") table
  weight ← needed_at place (codes "prior") table
  named ← needed_at place (codes "actions") table
  first ← needed_at place (codes "leader") table
  second ← needed_at place (codes "follower") table
  name ← new_name place (map (λ (x : Attacker). x.name) before) own
  prior ← prior_at place false weight
  actions ← names_at place (λ n. place) ACTION_LIMIT named
  leader ← pay_table_at place rows (length actions) first
  follower ← pay_table_at place rows (length actions) second
  Ok (record { name = name; prior = prior; payoffs = []; actions = actions; leader = leader; follower = follower })

-- one to eight types in security form, or one alone where a scale is declared
unfoldable pub security_types_at : Bool → ℕ → Data → Result (List Attacker) GameFault
security_types_at scaled targets value = do
  items ← some_at place_of.Document (if scaled then 1 else TYPE_LIMIT) value
  each (λ before. security_type_at (place_of.Attacker (length before + 1)) scaled targets before) [] items

-- one to eight types in matrix form
unfoldable pub matrix_types_at : ℕ → Data → Result (List Attacker) GameFault
matrix_types_at rows value = do
  items ← some_at place_of.Document TYPE_LIMIT value
  each (λ before. matrix_type_at (place_of.Attacker (length before + 1)) rows before) [] items
