-- Games between a defender and attackers of several types, in security form and in matrix form.
use Rattle.std.specs.Prelude.{ℕ, zero, suc, Bool, true, false, if◌then◌else◌, List, [], ◌∷◌, length, ℤ, pos, Option, Some, None, slice_index_or}
use Rattle.sg_model.specs.declared.kind.Kind.{Kind}
use Rattle.sg_model.specs.declared.kind.Kind.TheVariants.{Security, Matrix}
use Rattle.sg_model.specs.Sums.{total, numbers, nth}

-- what the defender and the attacker get at a target, covered and uncovered
pub record Payoff : Type 0 where
  pub dc : ℤ
  pub du : ℤ
  pub ac : ℤ
  pub au : ℤ

-- a type of attacker: four payoffs for each target, or in matrix form its actions and two tables with a list for each row
pub record Attacker : Type 0 where
  pub name : List ℕ
  pub prior : ℤ
  pub payoffs : List Payoff
  pub actions : List (List ℕ)
  pub leader : List (List ℤ)
  pub follower : List (List ℤ)

-- a schedule with the numbers of its targets, or a resource with those of its schedules
pub record Named : Type 0 where
  pub name : List ℕ
  pub members : List ℕ

-- a game: `goals` are the names of the targets, or of the rows in matrix form; a scale of 0 is none
pub record Game : Type 0 where
  pub kind : Kind
  pub scale : ℤ
  pub patrols : Option ℕ
  pub goals : List (List ℕ)
  pub schedules : List Named
  pub resources : List Named
  pub types : List Attacker

-- whether the kind is matrix form
abbrev pub is_kind_matrix : Kind → Bool
is_kind_matrix Security = false
is_kind_matrix Matrix = true

-- whether the game is in matrix form
abbrev pub is_matrix : Game → Bool
is_matrix g = is_kind_matrix g.kind

-- what stands where there is no type of that number
abbrev pub nobody : Attacker
nobody = record { name = []; prior = pos 0; payoffs = []; actions = []; leader = []; follower = [] }

-- what stands where there is no schedule or resource of that number
abbrev pub unnamed : Named
unnamed = record { name = []; members = [] }

-- what stands where there is no target of that number
abbrev pub nothing : Payoff
nothing = record { dc = pos 0; du = pos 0; ac = pos 0; au = pos 0 }

-- the attacker of type l, counted from 1
abbrev pub attacker : Game → ℕ → Attacker
attacker g l = nth g.types l nobody

-- the four payoffs of type l at target t, both counted from 1
abbrev pub payoff : Game → ℕ → ℕ → Payoff
payoff g l t = nth (attacker g l).payoffs t nothing

-- the payoffs of four numbers, in the order of a game file: defender covered and uncovered, attacker covered and uncovered
abbrev pub payoff_of : List ℤ → Payoff
payoff_of xs = record { dc = slice_index_or xs 0 (pos 0); du = slice_index_or xs 1 (pos 0); ac = slice_index_or xs 2 (pos 0); au = slice_index_or xs 3 (pos 0) }

-- how many actions type l has: the targets, or in matrix form its own
abbrev pub action_count : Game → ℕ → ℕ
action_count g l = if is_matrix g then length (attacker g l).actions else length g.goals

-- how many resources there are: the patrols, or those listed
abbrev pub resource_count : Game → ℕ
resource_count g = resources_of g.patrols (length g.resources)
  where
    resources_of : Option ℕ → ℕ → ℕ
    resources_of (Some n) m = n
    resources_of None m = m

-- how many schedules there are: with patrols one for each target, or those listed
abbrev pub schedule_count : Game → ℕ
schedule_count g = count_of g.patrols
  where
    count_of : Option ℕ → ℕ
    count_of (Some n) = length g.goals
    count_of None = length g.schedules

-- the targets of schedule s: with patrols, target s alone. Schedule 0 is idle
abbrev pub schedule_targets : Game → ℕ → List ℕ
schedule_targets g s = targets_of g.patrols s
  where
    targets_of : Option ℕ → ℕ → List ℕ
    targets_of (Some n) zero = []
    targets_of (Some n) (suc k) = suc k ∷ []
    targets_of None s = (nth g.schedules s unnamed).members

-- the schedules of resource r: with patrols, all of them
abbrev pub resource_schedules : Game → ℕ → List ℕ
resource_schedules g r = schedules_of g.patrols
  where
    schedules_of : Option ℕ → List ℕ
    schedules_of (Some n) = numbers (length g.goals)
    schedules_of None = (nth g.resources r unnamed).members

-- the sum of the priors
abbrev pub prior_total : Game → ℤ
prior_total g = total (λ (x : Attacker). x.prior) g.types
