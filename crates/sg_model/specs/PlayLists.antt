-- The legal plays of a game as one list, and how many there are.
use Rattle.std.specs.Prelude.{ℕ, zero, suc, ◌+◌, ◌*◌, if◌then◌else◌, List, [], ◌∷◌, length, map, flat_map}
use Rattle.sg_model.specs.Sums.{numbers, numbers_from}
use Rattle.sg_model.specs.Games.{Game, is_matrix, resource_count, resource_schedules}

-- the choices of resource r: 0 for idle, then the places of its schedules
abbrev pub choices_of : Game → ℕ → List ℕ
choices_of g r = numbers_from 0 (length (resource_schedules g r) + 1)

-- the choices of n resources together, from resource r on
abbrev pub joint_plays : Game → ℕ → ℕ → List (List ℕ)
joint_plays g r zero = [] ∷ []
joint_plays g r (suc n) = flat_map (λ c. map (λ cs. c ∷ cs) (joint_plays g (r + 1) n)) (choices_of g r)

-- the legal plays in the order of lists: joint schedules, or in matrix form rows
abbrev pub legal_plays : Game → List (List ℕ)
legal_plays g = if is_matrix g then map (λ row. row ∷ []) (numbers (length g.goals)) else joint_plays g 1 (resource_count g)

-- how many choices n resources have together, from resource r on
abbrev pub choices_from : Game → ℕ → ℕ → ℕ
choices_from g r zero = 1
choices_from g r (suc n) = (1 + length (resource_schedules g r)) * choices_from g (r + 1) n

-- how many legal plays there are: each resource idles or takes one of its schedules, and in matrix form one a row
abbrev pub play_count : Game → ℕ
play_count g = if is_matrix g then length g.goals else choices_from g 1 (resource_count g)
