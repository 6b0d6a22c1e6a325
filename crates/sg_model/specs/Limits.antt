-- Everything that a game file promises of its game: shapes, ranges, names and limits.
use Rattle.std.specs.Prelude.{◌≡◌, ◌≢◌, ℕ, ◌+◌, ◌-◌, ◌*◌, ◌^◌, ◌≤◌, Bool, if◌then◌else◌, List, [], map, length, sum_by, ℤ, pos, ◌-ℤ◌, ◌≤ℤ◌, int_lt, All, AllPairs, Option, Some, None}
use Rattle.sg_model.specs.declared.kind.Kind.{Kind}
use Rattle.sg_model.specs.declared.kind.Kind.TheVariants.{Security, Matrix}
use Rattle.sg_model.specs.declared.limit.TheConstants.{ACTION_LIMIT, PATROL_LIMIT, PAYOFF_LIMIT, PRIOR_LIMIT, PROGRAM_ROW_LIMIT, RESOURCE_LIMIT, RESOURCE_SCHEDULE_LIMIT, ROW_LIMIT, SCALED_PATROL_LIMIT, SCALED_TARGET_LIMIT, SCALE_LIMIT, SCHEDULE_LIMIT, SCHEDULE_TARGET_LIMIT, TARGET_LIMIT, TYPE_LIMIT}
use Rattle.sg_model.specs.Names.{AreNames}
use Rattle.sg_model.specs.Games.{Payoff, Attacker, Named, Game, resource_count, is_matrix}
use Rattle.sg_model.specs.Origami.{IsScaled}

-- whether a scale is declared
abbrev pub is_scaled : Game → Bool
is_scaled g = int_lt (pos 0) g.scale

-- from low to high
pub record IsCount (low high n : ℕ) : Type 0 where
  pub at_least : low ≤ n
  pub at_most : n ≤ high

-- from low to high
pub record IsWithin (low high z : ℤ) : Type 0 where
  pub at_least : low ≤ℤ z
  pub at_most : z ≤ℤ high

-- a payoff is from -2^30 to 2^30
abbrev pub IsPay : ℤ → Type 0
IsPay z = IsWithin (pos 0 -ℤ PAYOFF_LIMIT) PAYOFF_LIMIT z

-- each of the four payoffs is in that range
pub record IsPayoff (p : Payoff) : Type 0 where
  pub dc : IsPay p.dc
  pub du : IsPay p.du
  pub ac : IsPay p.ac
  pub au : IsPay p.au

-- numbers from 1 to count, one to limit of them, each at most once
pub record AreMembers (count limit : ℕ) (members : List ℕ) : Type 0 where
  pub size : IsCount 1 limit (length members)
  pub known : All (IsCount 1 count) members
  pub distinct : AllPairs (λ x y. x ≢ y) members

-- at most limit schedules, or resources, whose members number something of which there are count
pub record AreLists (count limit members_limit : ℕ) (lists : List Named) : Type 0 where
  pub few : length lists ≤ limit
  pub names : AreNames (map (λ (x : Named). x.name) lists)
  pub members : All (λ (x : Named). AreMembers count members_limit x.members) lists

-- a table with a list for each of m rows, each with n payoffs
pub record IsTable (m n : ℕ) (table : List (List ℤ)) : Type 0 where
  pub rows : length table ≡ m
  pub columns : All (λ row. length row ≡ n) table
  pub pays : All (λ row. All IsPay row) table

-- a type of attacker against so many targets
pub record IsSecurityType (targets : ℕ) (x : Attacker) : Type 0 where
  pub prior : IsWithin (pos 1) PRIOR_LIMIT x.prior
  pub one_each : length x.payoffs ≡ targets
  pub pays : All IsPayoff x.payoffs
  pub no_actions : x.actions ≡ []
  pub no_leader : x.leader ≡ []
  pub no_follower : x.follower ≡ []

-- a type of attacker against so many rows
pub record IsMatrixType (rows : ℕ) (x : Attacker) : Type 0 where
  pub prior : IsWithin (pos 1) PRIOR_LIMIT x.prior
  pub no_payoffs : x.payoffs ≡ []
  pub action_count : IsCount 1 ACTION_LIMIT (length x.actions)
  pub action_names : AreNames x.actions
  pub leader : IsTable rows (length x.actions) x.leader
  pub follower : IsTable rows (length x.actions) x.follower

-- one to eight types, with names of their own
pub record AreTypes (types : List Attacker) : Type 0 where
  pub count : IsCount 1 TYPE_LIMIT (length types)
  pub names : AreNames (map (λ (x : Attacker). x.name) types)

-- the rows of the largest linear program of the game: 1 + R + 2T + L * (T - 1) with R resources, T targets and L types,
-- or in matrix form 1 and each type's actions less 1
abbrev pub program_rows : Game → ℕ
program_rows g =
    if is_matrix g then 1 + sum_by (λ (x : Attacker). length x.actions - 1) g.types
    else 1 + resource_count g + 2 * length g.goals + length g.types * (length g.goals - 1)

-- what a declared scale asks: patrols, one type of prior 1, and gaps that fit the scale
pub record IsScaledGame (g : Game) : Type 0 where
  pub identical : g.patrols ≢ None
  pub one_type : length g.types ≡ 1
  pub prior_one : All (λ (x : Attacker). x.prior ≡ pos 1) g.types
  pub targets : All (λ (x : Attacker). All (IsScaled g.scale) x.payoffs) g.types

-- patrols within the limit, and nothing listed beside them
pub record ArePatrols (g : Game) (patrols : ℕ) : Type 0 where
  pub few : patrols ≤ (if is_scaled g then SCALED_PATROL_LIMIT else PATROL_LIMIT)
  pub no_schedules : g.schedules ≡ []
  pub no_resources : g.resources ≡ []

-- at most 500 schedules of one to 200 targets, and at most 32 resources with one to 500 of them
pub record AreListed (g : Game) : Type 0 where
  pub schedules : AreLists (length g.goals) SCHEDULE_LIMIT SCHEDULE_TARGET_LIMIT g.schedules
  pub resources : AreLists (length g.schedules) RESOURCE_LIMIT RESOURCE_SCHEDULE_LIMIT g.resources

-- identical patrols, or resources with schedules
abbrev pub IsDefended : Game → Option ℕ → Type 0
IsDefended g (Some patrols) = ArePatrols g patrols
IsDefended g None = AreListed g

-- a game in security form
pub record IsSecurityGame (g : Game) : Type 0 where
  pub targets : AreNames g.goals
  pub target_count : IsCount 1 (if is_scaled g then SCALED_TARGET_LIMIT else TARGET_LIMIT) (length g.goals)
  pub scale_range : IsWithin (pos 0) SCALE_LIMIT g.scale
  pub defended : IsDefended g g.patrols
  pub types : AreTypes g.types
  pub each_type : All (IsSecurityType (length g.goals)) g.types
  pub few_rows : g.scale ≡ pos 0 → program_rows g ≤ PROGRAM_ROW_LIMIT
  pub scaled : pos 1 ≤ℤ g.scale → IsScaledGame g

-- a game in matrix form
pub record IsMatrixGame (g : Game) : Type 0 where
  pub rows : AreNames g.goals
  pub row_count : IsCount 1 ROW_LIMIT (length g.goals)
  pub no_scale : g.scale ≡ pos 0
  pub no_patrols : g.patrols ≡ None
  pub no_schedules : g.schedules ≡ []
  pub no_resources : g.resources ≡ []
  pub types : AreTypes g.types
  pub each_type : All (IsMatrixType (length g.goals)) g.types
  pub few_rows : program_rows g ≤ PROGRAM_ROW_LIMIT

-- what every game file promises of its game
abbrev pub IsGame : Game → Type 0
IsGame g = promised g.kind
  where
    promised : Kind → Type 0
    promised Security = IsSecurityGame g
    promised Matrix = IsMatrixGame g
