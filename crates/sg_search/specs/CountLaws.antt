-- How many nodes are enough.
use Rattle.std.specs.Prelude.{ℕ, zero, suc, ◌+◌, ◌*◌, ◌≤◌, nat_eq, if◌then◌else◌, List, length, sum_by}
use Rattle.sg_model.specs.Sums.{numbers}
use Rattle.sg_model.specs.Games.{Game, action_count}
use Rattle.sg_model.specs.Payoffs.{IsPeopled}
use Rattle.sg_search.specs.Searches.{Task, Search, busy_count, first_search}
use Rattle.sg_search.specs.Changes.{Change, Runs}

-- how many prefixes fix types 1 to k: the product of their numbers of actions
abbrev pub prefix_count : Game → ℕ → ℕ
prefix_count g zero = 1
prefix_count g (suc k) = prefix_count g k * action_count g (k + 1)

-- with one type its actions; with several the actions of all types, and the prefixes of each length
abbrev pub enough_nodes : Game → ℕ
enough_nodes g =
    if nat_eq (length g.types) 1
    then action_count g 1
    else sum_by (action_count g) (numbers (length g.types)) + sum_by (prefix_count g) (numbers (length g.types))

-- no search works more nodes than these
abbrev pub WorkedAtMost : Type 0
WorkedAtMost = (p : Task) → IsPeopled p.game → (cs : List Change) (t : Search) → Runs p (first_search p) cs t → length t.worked ≤ enough_nodes p.game

-- and no more are ever taken: in work, worked or stuck
abbrev pub TakenAtMost : Type 0
TakenAtMost = (p : Task) → IsPeopled p.game → (cs : List Change) (t : Search) → Runs p (first_search p) cs t → busy_count t + length t.worked + length t.stuck ≤ enough_nodes p.game
