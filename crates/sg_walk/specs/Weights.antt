-- What weights of targets come to where some of them are covered, and what resources can add.
use Rattle.std.specs.Prelude.{ℕ, ◌+◌, ◌-◌, Bool, if◌then◌else◌, List, length, map, max, sum_by, ℤ, pos, ◌+ℤ◌}
use Rattle.std.specs.List.{fold}
use Rattle.sg_model.specs.Sums.{nth, numbers, numbers_from, positive_part, total}
use Rattle.sg_model.specs.Games.{Game, resource_count, resource_schedules, schedule_targets}
use Rattle.sg_model.specs.Plays.{covers}

-- the weight of a target where it is covered, and else 0
abbrev pub weight_where : List ℤ → (ℕ → Bool) → ℕ → ℤ
weight_where ws covered t = if covered t then nth ws t (pos 0) else pos 0

-- the sum of the weights of the first m targets that are covered
abbrev pub sum_where : List ℤ → (ℕ → Bool) → ℕ → ℤ
sum_where ws covered m = total (weight_where ws covered) (numbers m)

-- the sum of the weights that a play covers
abbrev pub covered_sum : Game → List ℤ → List ℕ → ℤ
covered_sum g ws play = sum_where ws (covers g play) (length g.goals)

-- the weight of a target that isn't covered, where it is above 0, and else 0
abbrev pub uncovered_weight : List ℤ → (ℕ → Bool) → ℕ → ℕ
uncovered_weight ws covered t = if covered t then 0 else positive_part (nth ws t (pos 0))

-- the sum of these over the targets of schedule s
abbrev pub schedule_weight : Game → List ℤ → (ℕ → Bool) → ℕ → ℕ
schedule_weight g ws covered s = sum_by (uncovered_weight ws covered) (schedule_targets g s)

-- the greatest of these sums over the schedules of resource r, or 0
abbrev pub resource_weight : Game → List ℤ → (ℕ → Bool) → ℕ → ℕ
resource_weight g ws covered r = fold max 0 (map (schedule_weight g ws covered) (resource_schedules g r))

-- the sum of these over the resources after the first k
abbrev pub rest_weight : Game → List ℤ → (ℕ → Bool) → ℕ → ℕ
rest_weight g ws covered k = sum_by (resource_weight g ws covered) (numbers_from (k + 1) (resource_count g - k))

-- the bound of a partial play: what it covers, and what the resources after it can add at most
abbrev pub bound : Game → List ℤ → List ℕ → ℤ
bound g ws p = covered_sum g ws p +ℤ pos (rest_weight g ws (covers g p) (length p))
