-- A bound of what the later resources can add to a sum of covered weights.
use Rattle.std.specs.Prelude.{ℕ, ◌+◌, ◌-◌, if◌then◌else◌, List, map, max, sum_by, ℤ, pos, Bool}
use Rattle.std.specs.List.{fold}
use Rattle.sg_model.specs.Sums.{nth, numbers_from, positive_part}
use Rattle.sg_model.specs.Games.{Game, resource_count, resource_schedules, schedule_targets}
use Rattle.sg_plays_fact.specs.Searching.{is_marked}

-- the weight of a target that isn't marked, where it is above 0, and else 0
abbrev pub open_weight : List ℤ → List Bool → ℕ → ℕ
open_weight ws covered t = if is_marked covered t then 0 else positive_part (nth ws t (pos 0))

-- the sum of them over the targets of schedule s
abbrev pub schedule_gain : Game → List ℤ → List Bool → ℕ → ℕ
schedule_gain g ws covered s = sum_by (open_weight ws covered) (schedule_targets g s)

-- the greatest of these sums over the schedules of resource r, or 0
abbrev pub most_gain : Game → List ℤ → List Bool → ℕ → ℕ
most_gain g ws covered r = fold max 0 (map (schedule_gain g ws covered) (resource_schedules g r))

-- the sum of these over the resources after the first k
abbrev pub rest_gain : Game → List ℤ → List Bool → ℕ → ℕ
rest_gain g ws covered k = sum_by (most_gain g ws covered) (numbers_from (k + 1) (resource_count g - k))
