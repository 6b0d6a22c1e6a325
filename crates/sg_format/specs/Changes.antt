-- A document in which one key was changed, the keys of a game's document, and the fault of a value at one of them.
use Rattle.std.specs.Prelude.{◌≡◌, ◌≢◌, ℕ, Bool, false, if◌then◌else◌, List, length, Option, Some, None, Result, Ok, Err, codes, bytes_eq}
use Rattle.toml.specs.Data.{Data, Members, get_member}
use Rattle.sg_model.specs.declared.limit.TheConstants.{ROW_LIMIT, SCALED_TARGET_LIMIT, TARGET_LIMIT}
use Rattle.sg_model.specs.declared.kind.Kind.{Kind}
use Rattle.sg_model.specs.declared.kind.Kind.TheVariants.{Security, Matrix}
use Rattle.sg_model.specs.declared.fault.GameFault.{GameFault}
use Rattle.sg_model.specs.declared.fault.Place.TheVariants as place_of
use Rattle.sg_model.specs.Games.{Game}
use Rattle.sg_model.specs.Limits.{is_scaled}
use Rattle.sg_format.specs.Lists.{names_at, resources_at, schedules_at}
use Rattle.sg_format.specs.Types.{matrix_types_at, security_types_at}
use Rattle.sg_format.specs.GameFiles.{is_matrix_key, is_patrols_key, is_resources_key}

-- the second table differs from the first at one key alone: there it has this value, or none
pub record DiffersAt (key : List ℕ) (value : Option Data) (first second : Members) : Type 0 where
  pub here : get_member key second ≡ value
  pub elsewhere : (other : List ℕ) → other ≢ key → get_member other second ≡ get_member other first

-- the top keys of a game of this form, with patrols or without
abbrev pub is_top_key : Kind → Option ℕ → List ℕ → Bool
is_top_key Matrix patrols key = is_matrix_key key
is_top_key Security (Some n) key = is_patrols_key key
is_top_key Security None key = is_resources_key key

-- the fault with which a reading ends, if it does
abbrev pub fault_in : {A : Type 0} → Result A GameFault → Option GameFault
fault_in (Ok x) = None
fault_in (Err fault) = Some fault

-- the fault of a list of targets, rows, schedules, resources or types that stands at its key in the document of a game
abbrev pub list_fault : Kind → Option ℕ → Game → List ℕ → Data → Option GameFault
list_fault Matrix patrols g key value =
    if bytes_eq key (codes "rows") then fault_in (names_at place_of.Document place_of.Row ROW_LIMIT value)
    else if bytes_eq key (codes "type") then fault_in (matrix_types_at (length g.goals) value)
    else None
list_fault Security (Some n) g key value =
    if bytes_eq key (codes "targets") then fault_in (names_at place_of.Document place_of.Target (if is_scaled g then SCALED_TARGET_LIMIT else TARGET_LIMIT) value)
    else if bytes_eq key (codes "type") then fault_in (security_types_at (is_scaled g) (length g.goals) value)
    else None
list_fault Security None g key value =
    if bytes_eq key (codes "targets") then fault_in (names_at place_of.Document place_of.Target TARGET_LIMIT value)
    else if bytes_eq key (codes "schedule") then fault_in (schedules_at g.goals value)
    else if bytes_eq key (codes "resource") then fault_in (resources_at g.schedules value)
    else if bytes_eq key (codes "type") then fault_in (security_types_at false (length g.goals) value)
    else None
