-- What a game has of each kind, by number, and how each is named.
use Rattle.std.specs.Prelude.{ℕ, ◌+◌, ◌*◌, ◌-◌, sum_by, ◌≤◌, ◌++◌, if◌then◌else◌, List, [], ◌∷◌, map, length, ℤ, pos, Option, Some, None, codes, decimal}
use Rattle.sg_model.specs.Sums.{nth, numbers}
use Rattle.sg_model.specs.declared.kind.Kind.{Kind}
use Rattle.sg_model.specs.declared.kind.Kind.TheVariants.{Security, Matrix}
use Rattle.sg_model.specs.Games.{Game, Attacker, Payoff, attacker, unnamed, action_count, is_matrix, resource_count, schedule_count}

-- how many targets there are: none in matrix form
abbrev pub target_count : Game → ℕ
target_count g = if is_matrix g then 0 else length g.goals

-- how many rows there are: none in security form
abbrev pub row_count : Game → ℕ
row_count g = if is_matrix g then length g.goals else 0

-- the four payoffs in the order of a game file
abbrev pub four : Payoff → List ℤ
four p = p.dc ∷ p.du ∷ p.ac ∷ p.au ∷ []

-- the name of a patrol: `p` and its number
abbrev pub patrol_name : ℕ → List ℕ
patrol_name r = codes "p" ++ decimal r

-- the names of the patrols, where there are any
abbrev pub patrol_names : Option ℕ → List (List ℕ)
patrol_names (Some n) = map patrol_name (numbers n)
patrol_names None = []

-- the name of schedule s: with patrols that of target s
abbrev pub schedule_name : Game → ℕ → List ℕ
schedule_name g s = named_by g.patrols
  where
    named_by : Option ℕ → List ℕ
    named_by (Some n) = nth g.goals s []
    named_by None = (nth g.schedules s unnamed).name

-- the name of resource r: a patrol's, or the one listed
abbrev pub resource_name : Game → ℕ → List ℕ
resource_name g r = named_by g.patrols
  where
    named_by : Option ℕ → List ℕ
    named_by (Some n) = nth (patrol_names (Some n)) r []
    named_by None = (nth g.resources r unnamed).name

-- the name of action a of type l: the target's, or in matrix form the action's own
abbrev pub action_name : Game → ℕ → ℕ → List ℕ
action_name g l a = if is_matrix g then nth (attacker g l).actions a [] else nth g.goals a []

-- s is the number of a schedule
abbrev pub IsScheduleOf : Game → ℕ → Type 0
IsScheduleOf g s = (1 ≤ s) × (s ≤ schedule_count g)

-- r is the number of a resource
abbrev pub IsResourceOf : Game → ℕ → Type 0
IsResourceOf g r = (1 ≤ r) × (r ≤ resource_count g)

-- l is the number of a type
abbrev pub IsTypeOf : Game → ℕ → Type 0
IsTypeOf g l = (1 ≤ l) × (l ≤ length g.types)

-- t is the number of a target or a row
abbrev pub IsGoalOf : Game → ℕ → Type 0
IsGoalOf g t = (1 ≤ t) × (t ≤ length g.goals)

-- a is the number of an action of type l
abbrev pub IsActionOf : Game → ℕ → ℕ → Type 0
IsActionOf g l a = (1 ≤ a) × (a ≤ action_count g l)

-- what the defender gets from row i where type l takes action a
abbrev pub leader_pay : Game → ℕ → ℕ → ℕ → ℤ
leader_pay g l i a = nth (nth (attacker g l).leader i []) a (pos 0)

-- what type l gets from action a where row i is played
abbrev pub follower_pay : Game → ℕ → ℕ → ℕ → ℤ
follower_pay g l i a = nth (nth (attacker g l).follower i []) a (pos 0)

-- the rows of the largest linear program, from what it depends on
abbrev pub rows_by : Kind → ℕ → ℕ → List Attacker → ℕ
rows_by Security resources goals types = 1 + resources + 2 * goals + length types * (goals - 1)
rows_by Matrix resources goals types = 1 + sum_by (λ (x : Attacker). length x.actions - 1) types
