-- The first rule that the parts of a game break.
use Rattle.std.specs.Prelude.{ℕ, ◌+◌, ◌^◌, Bool, true, false, ◌&&◌, ◌||◌, nat_le, not, if◌then◌else◌, List, [], ◌∷◌, ◌++◌, length, ℤ, pos, ◌-ℤ◌, int_le, int_lt, int_rem, Option, Some, None, is_some, is_none, String, string_bytes, bytes_eq, nat_eq, Vec}
use Rattle.std.specs.List.{list_all, list_any}
use Rattle.std.specs.Ordering.{int_eq}
use Rattle.std.specs.declared.alloc.Global.{Global}
use Rattle.sg_model.specs.declared.kind.Kind.{Kind}
use Rattle.sg_model.specs.declared.kind.Kind.TheVariants.{Security, Matrix}
use Rattle.sg_model.specs.declared.fault.GameFault.{GameFault}
use Rattle.sg_model.specs.declared.fault.Place.{Place}
use Rattle.sg_model.specs.declared.fault.Place.TheVariants.{Document, Target, Row, Schedule, Resource, Attacker}
use Rattle.sg_model.specs.declared.limit.TheConstants.{ACTION_LIMIT, PATROL_LIMIT, PAYOFF_LIMIT, PRIOR_LIMIT, PROGRAM_ROW_LIMIT, RESOURCE_LIMIT, RESOURCE_SCHEDULE_LIMIT, ROW_LIMIT, SCALED_PATROL_LIMIT, SCALED_TARGET_LIMIT, SCALE_LIMIT, SCHEDULE_LIMIT, SCHEDULE_TARGET_LIMIT, TARGET_LIMIT, TYPE_LIMIT}
use Rattle.sg_model.specs.declared.reason.TheConstants.{BAD_SCALE, EMPTY_LIST, MISSING_KEY, OUT_OF_RANGE, REPEATED_NAME, TOO_LARGE, UNKNOWN_NAME}
use Rattle.sg_model.specs.Games.{Game, Payoff}
use Rattle.sg_model.specs.Games as model
use Rattle.sg_model.specs.Limits.{program_rows}
use Rattle.sg_model.specs.Names.{is_name}
use Rattle.sg_model.specs.Origami.{gap}
use Rattle.sg_model.specs.Places.{goal_place}
use Rattle.sg_game.specs.declared.parts.Parts.{Parts}
use Rattle.sg_game.specs.declared.parts.ListParts.{ListParts}
use Rattle.sg_game.specs.declared.parts.TypeParts.{TypeParts}
use Rattle.sg_game.specs.Seen.{game_of}

-- the first of two faults
infixl 10 ◌orelse◌
abbrev pub ◌orelse◌ : Option GameFault → Option GameFault → Option GameFault
(Some fault) orelse later = Some fault
None orelse later = later

-- nothing where the test passes, or this fault
abbrev pub fault_unless : Bool → ℕ → Place → Option GameFault
fault_unless true reason place = None
fault_unless false reason place = Some (record { reason = reason; place = place })

-- from low to high
abbrev pub is_within : ℤ → ℤ → ℤ → Bool
is_within low high z = int_le low z && int_le z high

-- a name that is spelled wrong, or that stands before
abbrev pub name_fault : List (List ℕ) → Place → List ℕ → Option GameFault
name_fault before place name = fault_unless (is_name name) OUT_OF_RANGE place orelse fault_unless (not (list_any (λ known. bytes_eq known name) before)) REPEATED_NAME place

-- the first fault of entries in order, after those of the names before: of an entry's name, and then of the rest of it
abbrev pub entries_fault : {X : Type 0} → (X → List ℕ) → (Place → X → Option GameFault) → (ℕ → Place) → List (List ℕ) → List X → Option GameFault
entries_fault name rest place before [] = None
entries_fault name rest place before (x ∷ xs) =
    (name_fault before (place (length before + 1)) (name x) orelse rest (place (length before + 1)) x)
    orelse entries_fault name rest place (before ++ name x ∷ []) xs

-- the first fault of names
abbrev pub names_fault : (ℕ → Place) → List (String Global) → Option GameFault
names_fault place names = entries_fault string_bytes (λ here name. None) place [] names

-- a member that isn't from 1 to count, or that stands before
abbrev pub member_fault : ℕ → Place → List ℕ → ℕ → Option GameFault
member_fault count place before m = fault_unless (nat_le 1 m && nat_le m count) UNKNOWN_NAME place orelse fault_unless (not (list_any (λ known. nat_eq known m) before)) REPEATED_NAME place

-- the first fault of members in order, after those before
abbrev pub each_member_fault : ℕ → Place → List ℕ → List ℕ → Option GameFault
each_member_fault count place before [] = None
each_member_fault count place before (m ∷ ms) = member_fault count place before m orelse each_member_fault count place (before ++ m ∷ []) ms

-- the first fault of the members of a schedule or a resource: none of them, too many, or one of them
abbrev pub members_fault : ℕ → ℕ → Place → ListParts → Option GameFault
members_fault count limit place x =
    fault_unless (nat_le 1 (length x.members.items)) EMPTY_LIST place
    orelse fault_unless (nat_le (length x.members.items) limit) TOO_LARGE place
    orelse each_member_fault count place [] x.members.items

-- the first fault of schedules or resources
unfoldable pub lists_fault : ℕ → ℕ → ℕ → (ℕ → Place) → List ListParts → Option GameFault
lists_fault count limit members_limit place lists =
    fault_unless (nat_le (length lists) limit) TOO_LARGE Document
    orelse entries_fault (λ (x : ListParts). string_bytes x.name) (members_fault count members_limit) place [] lists

-- a payoff within the limit
abbrev pub is_pay : ℤ → Bool
is_pay z = is_within (pos 0 -ℤ PAYOFF_LIMIT) PAYOFF_LIMIT z

-- a list for each of m rows, each with n payoffs
abbrev pub is_table : ℕ → ℕ → List (Vec ℤ Global) → Bool
is_table m n table = nat_eq (length table) m && list_all (λ (row : Vec ℤ Global). nat_eq (length row.items) n && list_all is_pay row.items) table

-- the first fault of a type's actions and tables against so many rows
unfoldable pub tables_fault : ℕ → Place → TypeParts → Option GameFault
tables_fault goals place x =
    fault_unless (nat_le 1 (length x.actions.items)) EMPTY_LIST place
    orelse fault_unless (nat_le (length x.actions.items) ACTION_LIMIT) TOO_LARGE place
    orelse names_fault (λ n. place) x.actions.items
    orelse fault_unless (is_table goals (length x.actions.items) x.leader.items) OUT_OF_RANGE place
    orelse fault_unless (is_table goals (length x.actions.items) x.follower.items) OUT_OF_RANGE place

-- the first fault of what a type gets: four payoffs for each target, or its actions and tables
abbrev pub pays_fault : Kind → ℕ → Place → TypeParts → Option GameFault
pays_fault Security goals place x = fault_unless (is_table goals 4 x.payoffs.items) OUT_OF_RANGE place
pays_fault Matrix goals place x = tables_fault goals place x

-- the first fault of a type but for its name
abbrev pub type_fault : Kind → ℤ → ℕ → Place → TypeParts → Option GameFault
type_fault kind prior_limit goals place x = fault_unless (is_within (pos 1) prior_limit x.prior) OUT_OF_RANGE place orelse pays_fault kind goals place x

-- how many targets or rows there may be
abbrev pub goal_limit : Kind → Bool → ℕ
goal_limit Security is_scaled = if is_scaled then SCALED_TARGET_LIMIT else TARGET_LIMIT
goal_limit Matrix is_scaled = ROW_LIMIT

-- a list has no entry, or too many
abbrev pub count_fault : ℕ → ℕ → Option GameFault
count_fault count limit = fault_unless (nat_le 1 count) EMPTY_LIST Document orelse fault_unless (nat_le count limit) TOO_LARGE Document

-- the first fault of the targets or rows: none of them, too many, or a name
unfoldable pub goals_fault : Parts → Option GameFault
goals_fault p =
    count_fault (length p.goals.items) (goal_limit p.kind (is_some p.scale))
    orelse names_fault (goal_place p.kind) p.goals.items

-- how great a prior may be
abbrev pub prior_limit : Bool → ℤ
prior_limit is_scaled = if is_scaled then pos 1 else PRIOR_LIMIT

-- how many types there may be
abbrev pub type_limit : Bool → ℕ
type_limit is_scaled = if is_scaled then 1 else TYPE_LIMIT

-- how many patrols there may be
abbrev pub patrol_limit : Bool → ℤ
patrol_limit is_scaled = if is_scaled then pos SCALED_PATROL_LIMIT else pos PATROL_LIMIT

-- a number out of range, where there is one
abbrev pub option_fault : ℤ → ℤ → Option ℤ → Option GameFault
option_fault low high None = None
option_fault low high (Some z) = fault_unless (is_within low high z) OUT_OF_RANGE Document

-- the first fault of the scale and the patrols
unfoldable pub numbers_fault : Parts → Option GameFault
numbers_fault p =
    option_fault (pos 1) SCALE_LIMIT p.scale
    orelse option_fault (pos 0) (patrol_limit (is_some p.scale)) p.patrols

-- the first fault of the types: none of them, too many, or one of them
unfoldable pub types_fault : Parts → Option GameFault
types_fault p =
    count_fault (length p.types.items) (type_limit (is_some p.scale))
    orelse entries_fault (λ (x : TypeParts). string_bytes x.name) (type_fault p.kind (prior_limit (is_some p.scale)) (length p.goals.items)) Attacker [] p.types.items

-- covering helps the defender and hurts the attacker, and the attacker's gap divides the scale
abbrev pub is_scaled_payoff : ℤ → Payoff → Bool
is_scaled_payoff scale p = (int_lt p.du p.dc && int_lt p.ac p.au) && int_eq (int_rem scale (gap p)) (pos 0)

-- whether each payoff of each type fits the scale
abbrev pub is_scaled_game : Game → Bool
is_scaled_game g = list_all (λ (x : model.Attacker). list_all (is_scaled_payoff g.scale) x.payoffs) g.types

-- the first fault of the game as a whole: with a scale a payoff that doesn't fit it, else too large a linear program
abbrev pub whole_fault : Bool → Game → Option GameFault
whole_fault true g = fault_unless (is_scaled_game g) BAD_SCALE (Attacker 1)
whole_fault false g = fault_unless (nat_le (program_rows g) PROGRAM_ROW_LIMIT) TOO_LARGE Document

-- the first fault of the fields, one after the other
unfoldable pub fields_fault : Parts → Option GameFault
fields_fault p =
    fault_unless (is_none p.scale || is_some p.patrols) MISSING_KEY Document
    orelse goals_fault p
    orelse numbers_fault p
    orelse lists_fault (length p.goals.items) SCHEDULE_LIMIT SCHEDULE_TARGET_LIMIT Schedule p.schedules.items
    orelse lists_fault (length p.schedules.items) RESOURCE_LIMIT RESOURCE_SCHEDULE_LIMIT Resource p.resources.items
    orelse types_fault p

-- the first rule that the parts break, in the order of a game file
unfoldable pub fault_of : Parts → Option GameFault
fault_of p = fields_fault p orelse whole_fault (is_some p.scale) (game_of p)
