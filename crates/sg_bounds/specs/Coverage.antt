-- The coverage table of a node: what a commitment covers, as columns and rows of a linear program.
use Rattle.std.specs.Prelude.{ℕ, ◌≤◌, Bool, if◌then◌else◌, List, ◌∷◌, ◌++◌, map, length, ℤ, pos, negsuc, ◌+ℤ◌, ◌-ℤ◌, ◌*ℤ◌, filter, flat_map, nat_eq, not}
use Rattle.std.specs.List.{list_any}
use Rattle.sg_model.specs.Sums.{total, numbers, nth}
use Rattle.sg_model.specs.Games.{Game, attacker, payoff, resource_count, resource_schedules, schedule_targets}
use Rattle.sg_model.specs.Payoffs.{shift_of}
use Rattle.sg_tree.specs.declared.fact.Line.{Line}
use Rattle.sg_tree.specs.declared.fix.Fix.{Fix}
use Rattle.sg_bounds.specs.Regions.{fixed, act_of}

-- a column: the whole of the tickets; those on which resource r takes choice j; those that cover target t
pub data Column : Type 0 where
  always : Column
  chooses : ℕ → ℕ → Column
  covering : ℕ → Column

-- a row: row 0; resource r makes one choice; target t is held where it is covered; it is covered at most always;
-- type l gains by another action
pub data Row : Type 0 where
  whole : Row
  spends : ℕ → Row
  held : ℕ → Row
  within : ℕ → Row
  gains : ℕ → ℕ → Row

-- the columns of a game
abbrev pub IsColumn : Game → Column → Type 0
IsColumn g always = Unit {0}
IsColumn g (chooses r j) = (1 ≤ r) × (r ≤ resource_count g) × (1 ≤ j) × (j ≤ length (resource_schedules g r))
IsColumn g (covering t) = (1 ≤ t) × (t ≤ length g.goals)

-- the columns in order: the whole, each choice of each resource, each target
abbrev pub columns : Game → List Column
columns g =
    always ∷ (flat_map (λ r. map (chooses r) (numbers (length (resource_schedules g r)))) (numbers (resource_count g))
    ++ map covering (numbers (length g.goals)))

-- the targets other than a
abbrev pub others : Game → ℕ → List ℕ
others g a = filter (λ b. not (nat_eq a b)) (numbers (length g.goals))

-- the rows from row 1, in their order
abbrev pub table_rows : Game → Fix → List Row
table_rows g fix =
    map spends (numbers (resource_count g)) ++ (map held (numbers (length g.goals)) ++ (map within (numbers (length g.goals))
    ++ flat_map (λ (p : ℕ × ℕ). map (gains p.0) (others g p.1)) (fixed fix)))

-- whether choice j of resource r holds target t
abbrev pub choice_holds : Game → ℕ → ℕ → ℕ → Bool
choice_holds g r j t = list_any (λ x. nat_eq x t) (schedule_targets g (nth (resource_schedules g r) j 0))

-- z where the two numbers are equal, else 0
abbrev pub where_same : ℕ → ℕ → ℤ → ℤ
where_same a b z = if nat_eq a b then z else pos 0

-- the entry of a row in a column
abbrev pub entry : Game → Fix → Row → Column → ℤ
entry g fix whole always = pos 1
entry g fix whole (chooses r j) = pos 0
entry g fix whole (covering t) = pos 0
entry g fix (spends s) always = negsuc 0
entry g fix (spends s) (chooses r j) = where_same s r (pos 1)
entry g fix (spends s) (covering t) = pos 0
entry g fix (held s) always = pos 0
entry g fix (held s) (chooses r j) = if choice_holds g r j s then negsuc 0 else pos 0
entry g fix (held s) (covering t) = where_same s t (pos 1)
entry g fix (within s) always = negsuc 0
entry g fix (within s) (chooses r j) = pos 0
entry g fix (within s) (covering t) = where_same s t (pos 1)
entry g fix (gains l b) always = (payoff g l b).au -ℤ (payoff g l (act_of fix l)).au
entry g fix (gains l b) (chooses r j) = pos 0
entry g fix (gains l b) (covering t) =
    where_same b t ((payoff g l b).ac -ℤ (payoff g l b).au) +ℤ where_same (act_of fix l) t ((payoff g l (act_of fix l)).au -ℤ (payoff g l (act_of fix l)).ac)

-- what a column is worth to the defender: prior times payoff, with the shift, summed over the fixed types
abbrev pub column_cost : Game → Fix → Column → ℤ
column_cost g fix always = total (λ (p : ℕ × ℕ). (attacker g p.0).prior *ℤ ((payoff g p.0 p.1).du +ℤ shift_of g)) (fixed fix)
column_cost g fix (chooses r j) = pos 0
column_cost g fix (covering t) =
    total (λ (p : ℕ × ℕ). where_same p.1 t ((attacker g p.0).prior *ℤ ((payoff g p.0 p.1).dc -ℤ (payoff g p.0 p.1).du))) (fixed fix)

-- the row that a line names
abbrev pub row_of : Game → Fix → Line → Row
row_of g fix line = nth (table_rows g fix) line.row whole
