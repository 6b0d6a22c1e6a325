-- Each target's amount filled choice by choice: the counts of the first choices that hold it, as far as the amount goes.
use Rattle.std.specs.Prelude.{ℕ, ◌-◌, if◌then◌else◌, List, map, length, slice_index, ℤ, pos, ◌+ℤ◌, ◌-ℤ◌}
use Rattle.std.specs.Int.{int_max, int_min}
use Rattle.sg_model.specs.Games.{Game, resource_count, resource_schedules, schedule_targets}
use Rattle.sg_model.specs.Sums.{nth, numbers, total}
use Rattle.sg_bounds.specs.Coverage as table

-- what choice j of resource r has for target u
abbrev pub held_amount : Game → (table.Column → ℤ) → ℕ → ℕ → ℕ → ℤ
held_amount g a u r j = if table.choice_holds g r j u then a (table.chooses r j) else pos 0

-- what all choices of resource r have for it
abbrev pub resource_amount : Game → (table.Column → ℤ) → ℕ → ℕ → ℤ
resource_amount g a u r = total (held_amount g a u r) (numbers (length (resource_schedules g r)))

-- what the resources before r have for it
abbrev pub amount_before : Game → (table.Column → ℤ) → ℕ → ℕ → ℤ
amount_before g a u r = pos 0 +ℤ total (resource_amount g a u) (numbers (r - 1))

-- how much of its amount is more than the choices before choice j of resource r have
abbrev pub amount_left : Game → (table.Column → ℤ) → ℕ → ℕ → ℕ → ℤ
amount_left g a u r j = a (table.covering u) -ℤ (amount_before g a u r +ℤ total (held_amount g a u r) (numbers (j - 1)))

-- a number as far as so much is left
abbrev pub taken_of : ℤ → ℤ → ℤ
taken_of left x = int_max (pos 0) (int_min left x)

-- the first target of a choice
abbrev pub target_in : Game → ℕ → ℕ → ℕ
target_in g r j = slice_index (schedule_targets g (nth (resource_schedules g r) j 0)) 0

-- the count of a choice
abbrev pub filled_count : Game → (table.Column → ℤ) → ℕ → ℕ → ℤ
filled_count g a r j = taken_of (amount_left g a (target_in g r j) r j) (a (table.chooses r j))

-- the counts of a resource, and all of them
abbrev pub filled_row : Game → (table.Column → ℤ) → ℕ → List ℤ
filled_row g a r = map (filled_count g a r) (numbers (length (resource_schedules g r)))

abbrev pub filled_counts : Game → (table.Column → ℤ) → List (List ℤ)
filled_counts g a = map (filled_row g a) (numbers (resource_count g))
