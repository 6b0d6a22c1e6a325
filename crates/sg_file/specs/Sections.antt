-- The tables of a game file with their keys, the lists of names with the places of their entries, and the forms of types.
use Rattle.std.specs.Prelude.{ℕ, Bool, List, Result, codes}
use Rattle.toml.specs.Data.{Data}
use Rattle.sg_model.specs.Games.{Attacker}
use Rattle.sg_model.specs.declared.fault.GameFault.{GameFault}
use Rattle.sg_model.specs.declared.fault.Place.{Place}
use Rattle.sg_model.specs.declared.fault.Place.TheVariants as place_of
use Rattle.sg_format.specs.Lists.{is_named_key}
use Rattle.sg_format.specs.Types.{is_security_type_key, is_matrix_type_key, matrix_type_at, security_type_at}
use Rattle.sg_format.specs.GameFiles.{is_patrols_key, is_resources_key, is_matrix_key}
use Rattle.sg_file.specs.declared.keys.Section.{Section}
use Rattle.sg_file.specs.declared.keys.Section.TheVariants.{Patrols, Resources, Matrix, Schedule, Resource, SecurityType, MatrixType}
use Rattle.sg_file.specs.declared.names.Listing.{Listing}
use Rattle.sg_file.specs.declared.names.Listing.TheVariants.{Targets, Rows, Actions}
use Rattle.sg_file.specs.declared.types.TypeForm.{TypeForm}
use Rattle.sg_file.specs.declared.types.TypeForm.TheVariants.{Security, Matrix as Tabled}
use Rattle.sg_file.specs.declared.lists.Group.{Group}
use Rattle.sg_file.specs.declared.lists.Group.TheVariants.{Schedules, Resources as Manned}

-- the keys of a table
abbrev pub is_key_of : Section → List ℕ → Bool
is_key_of Patrols = is_patrols_key
is_key_of Resources = is_resources_key
is_key_of Matrix = is_matrix_key
is_key_of Schedule = is_named_key (codes "targets")
is_key_of Resource = is_named_key (codes "schedules")
is_key_of SecurityType = is_security_type_key
is_key_of MatrixType = is_matrix_type_key

-- where the faults of a list of names as a whole stand
abbrev pub listing_place : Listing → Place
listing_place Targets = place_of.Document
listing_place Rows = place_of.Document
listing_place (Actions l) = place_of.Attacker l

-- where its n-th name stands
abbrev pub entry_of : Listing → ℕ → Place
entry_of Targets n = place_of.Target n
entry_of Rows n = place_of.Row n
entry_of (Actions l) n = place_of.Attacker l

-- the key at which a schedule or a resource lists its members
abbrev pub key_of : Group → List ℕ
key_of Schedules = codes "targets"
key_of Manned = codes "schedules"

-- where the n-th schedule or resource stands
abbrev pub member_place : Group → ℕ → Place
member_place Schedules n = place_of.Schedule n
member_place Manned n = place_of.Resource n

-- how many of them there may be
abbrev pub limit_of : Group → ℕ
limit_of Schedules = 500
limit_of Manned = 32

-- how many members each may have
abbrev pub members_limit : Group → ℕ
members_limit Schedules = 200
members_limit Manned = 500

-- the table that each of them is
abbrev pub section_of : Group → Section
section_of Schedules = Schedule
section_of Manned = Resource

-- the n-th type of a list of this form, beside those before it
abbrev pub type_at : TypeForm → ℕ → List Attacker → Data → Result Attacker GameFault
type_at (Security scaled targets) n before value = security_type_at (place_of.Attacker n) scaled targets before value
type_at (Tabled rows) n before value = matrix_type_at (place_of.Attacker n) rows before value
