-- Small documents with a fault or two, and what they are refused for, worked out by hand.
use Rattle.std.specs.Prelude.{◌≡◌, ℕ, ◌+◌, ◌^◌, List, [], ◌∷◌, codes, ℤ, pos, Ok}
use Rattle.toml.specs.Data.{Data, Items, Members, no_items, item, no_members, member, array, integer, string, table}
use Rattle.sg_model.specs.declared.fault.Place.TheVariants.{Document, Target, Schedule, Resource, Attacker}
use Rattle.sg_model.specs.Examples.{minus, two_targets}
use Rattle.sg_format.specs.Steps.{refused}
use Rattle.sg_model.specs.declared.reason.TheConstants.{MISSING_KEY, WRONG_KIND, UNKNOWN_KEY, EMPTY_LIST, UNKNOWN_NAME, REPEATED_NAME, OUT_OF_RANGE, TOO_LARGE, BAD_SCALE}
use Rattle.sg_format.specs.GameFiles.{game_of_table}

-- the items in order
abbrev pub items_of : List Data → Items
items_of [] = no_items
items_of (value ∷ rest) = item value (items_of rest)

-- an array of these values
abbrev pub listed : List Data → Data
listed values = array (items_of values)

-- an array of four payoffs
abbrev pub four : ℤ → ℤ → ℤ → ℤ → Data
four dc du ac au = listed (integer dc ∷ integer du ∷ integer ac ∷ integer au ∷ [])

-- a type with a prior and payoffs
abbrev pub type_of : Data → Data → List Data → Data
type_of name prior payoffs = table (member (codes "name") name (member (codes "payoffs") (listed payoffs) (member (codes "prior") prior no_members)))

-- the document of one patrol with these targets, scale and types
abbrev pub patrol_file : List Data → ℤ → List Data → Members
patrol_file targets scale types =
    member (codes "form") (string (codes "security")) (member (codes "patrols") (integer (pos 1)) (member (codes "scale") (integer scale)
    (member (codes "targets") (listed targets) (member (codes "type") (listed types) (member (codes "version") (integer (pos 1)) no_members)))))

-- the two targets of the example, and its one type
abbrev pub two_names : List Data
two_names = string (codes "a") ∷ string (codes "b") ∷ []

abbrev pub two_payoffs : List Data
two_payoffs = four (pos 2) (minus 2) (pos 0) (pos 4) ∷ four (pos 1) (minus 1) (pos 0) (pos 2) ∷ []

abbrev pub one_thief : List Data → List Data
one_thief payoffs = type_of (string (codes "thief")) (integer (pos 1)) payoffs ∷ []

-- a table with a name and a list of names
abbrev pub named_file : List ℕ → Data → List Data → Data
named_file key name members = table (member (codes "name") name (member key (listed members) no_members))

-- the document of these schedules and resources over the two targets
abbrev pub listed_file : List Data → List Data → Members
listed_file schedules resources =
    member (codes "form") (string (codes "security")) (member (codes "resource") (listed resources) (member (codes "schedule") (listed schedules)
    (member (codes "targets") (listed two_names) (member (codes "type") (listed (one_thief two_payoffs)) (member (codes "version") (integer (pos 1)) no_members)))))

-- one that is right, and what each fault, or the first of two, is refused for
pub record WorkedFaults : Type 0 where
  pub right : game_of_table (patrol_file two_names (pos 4) (one_thief two_payoffs)) ≡ Ok two_targets
  pub same_target : game_of_table (patrol_file (string (codes "a") ∷ string (codes "a") ∷ []) (pos 4) (one_thief two_payoffs)) ≡ refused REPEATED_NAME (Target 2)
  pub spaced_target : game_of_table (patrol_file (string (codes "a") ∷ string (codes "b c") ∷ []) (pos 4) (one_thief two_payoffs)) ≡ refused OUT_OF_RANGE (Target 2)
  pub no_type : game_of_table (patrol_file two_names (pos 4) []) ≡ refused EMPTY_LIST Document
  pub numbered_type : game_of_table (patrol_file two_names (pos 4) (type_of (integer (pos 7)) (integer (pos 1)) two_payoffs ∷ [])) ≡ refused WRONG_KIND (Attacker 1)
  pub two_types : game_of_table (patrol_file two_names (pos 4) (type_of (string (codes "thief")) (integer (pos 1)) two_payoffs ∷ type_of (string (codes "spy")) (integer (pos 1)) two_payoffs ∷ [])) ≡ refused TOO_LARGE Document
  pub one_row : game_of_table (patrol_file two_names (pos 4) (one_thief (four (pos 2) (minus 2) (pos 0) (pos 4) ∷ []))) ≡ refused OUT_OF_RANGE (Attacker 1)
  pub large_payoff : game_of_table (patrol_file two_names (pos 4) (one_thief (four (pos 2) (minus 2) (pos 0) (pos (2 ^ 30 + 1)) ∷ four (pos 1) (minus 1) (pos 0) (pos 2) ∷ []))) ≡ refused OUT_OF_RANGE (Attacker 1)
  pub odd_scale : game_of_table (patrol_file two_names (pos 6) (one_thief two_payoffs)) ≡ refused BAD_SCALE (Attacker 1)
  pub unhurt_attacker : game_of_table (patrol_file two_names (pos 4) (one_thief (four (pos 2) (minus 2) (pos 4) (pos 4) ∷ four (pos 1) (minus 1) (pos 0) (pos 2) ∷ []))) ≡ refused BAD_SCALE (Attacker 1)
  pub strange_target : game_of_table (listed_file (named_file (codes "targets") (string (codes "s")) (string (codes "a") ∷ string (codes "c") ∷ []) ∷ []) []) ≡ refused UNKNOWN_NAME (Schedule 1)
  pub same_member : game_of_table (listed_file (named_file (codes "targets") (string (codes "s")) (string (codes "b") ∷ string (codes "b") ∷ []) ∷ []) []) ≡ refused REPEATED_NAME (Schedule 1)
  pub strange_key : game_of_table (listed_file [] (named_file (codes "targets") (string (codes "r")) [] ∷ [])) ≡ refused UNKNOWN_KEY (Resource 1)
  pub no_name : game_of_table (listed_file [] (table (member (codes "schedules") (listed []) no_members) ∷ [])) ≡ refused MISSING_KEY (Resource 1)
  pub target_before_type : game_of_table (patrol_file (string (codes "a") ∷ string (codes "a") ∷ []) (pos 0) []) ≡ refused REPEATED_NAME (Target 2)
  pub scale_before_type : game_of_table (patrol_file two_names (pos 0) []) ≡ refused OUT_OF_RANGE Document
  pub name_before_prior : game_of_table (patrol_file two_names (pos 4) (type_of (integer (pos 7)) (integer (pos 0)) [] ∷ [])) ≡ refused WRONG_KIND (Attacker 1)
  pub name_before_members : game_of_table (listed_file (named_file (codes "targets") (string (codes "s t")) (string (codes "c") ∷ []) ∷ []) []) ≡ refused OUT_OF_RANGE (Schedule 1)
  pub schedule_before_resource : game_of_table (listed_file (named_file (codes "targets") (string (codes "s")) (string (codes "c") ∷ []) ∷ []) (integer (pos 1) ∷ [])) ≡ refused UNKNOWN_NAME (Schedule 1)
