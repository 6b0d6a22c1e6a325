-- Searches with their events, as worked out by hand.
use Rattle.std.specs.Prelude.{◌≡◌, ℕ, zero, suc, true, false, List, [], ◌∷◌, pos, Option, Some, None}
use Rattle.sg_model.specs.Examples.{ticket, two_players}
use Rattle.sg_commit.specs.Committed.{Committed}
use Rattle.sg_tree.specs.declared.fact.Fact.{Fact}
use Rattle.sg_tree.specs.declared.fix.Fix.{Fix}
use Rattle.sg_tree.specs.declared.worked.Worked.{Worked}
use Rattle.sg_bounds.specs.Regions.{alone, prefix}
use Rattle.sg_bounds.specs.Trees.{Node, closed, split, parts_of}
use Rattle.sg_bounds.specs.Examples.{mark, one_alone, over_plays, plain_cap, two_caps, two_to_one}
use Rattle.sg_search.specs.Searches.{Task, Search, first_search}
use Rattle.sg_search.specs.Bounding.{caps_of, incumbent, is_open, own_bound, tree_of}
use Rattle.sg_search.specs.Changes.{Change, takes, branches, moves, ends, works, Runs, with_lane, begun}
use Rattle.sg_search.specs.declared.event.Event.{Event}
use Rattle.sg_search.specs.Events.{AreChoices, IsEnabled, MayChoose}

-- the game of two types, whose first commitment is the first row
abbrev pub task : ℕ → Task
task lanes = record { game = two_players; lanes = lanes; nodes = 100; first = ticket 1 (1 ∷ []) ∷ [] }

-- the points of the worked nodes
abbrev pub first_row : Option Committed
first_row = Some (record { tickets = one_alone; total = pos 1 })

abbrev pub both_rows : Option Committed
both_rows = Some (record { tickets = two_to_one; total = pos 3 })

abbrev pub result : Fix → Fact → Option Committed → Worked
result node fact point = record { fix = node; fact = fact; point = point }

-- so many turns that go on, and one that ends the node
abbrev pub turned : ℕ → List Change → List Change
turned zero cs = ends 1 ∷ cs
turned (suc n) cs = moves 1 ∷ turned n cs

-- a node from its begin to its finish
abbrev pub worked_in : ℕ → Fix → Fact → Option Committed → List Change → List Change
worked_in turns node fact point rest = takes 1 node ∷ turned turns (works 1 fact point ∷ rest)

-- the whole search with one lane, in the order of the file: the prefixes of one type, the nodes of the cap, then the second
-- prefix is split
abbrev pub last_part : List Change
last_part = worked_in 2 (prefix (2 ∷ 2 ∷ [])) (over_plays 3 22 (mark 1 1 2 ∷ [])) both_rows []

abbrev pub split_part : List Change
split_part = branches 1 (2 ∷ []) ∷ turned 2 (works 1 (over_plays 3 16 (mark 2 2 2 ∷ [])) both_rows ∷ last_part)

abbrev pub cap_part : List Change
cap_part = worked_in 2 (alone 2 1) (over_plays 3 5 (mark 2 2 1 ∷ [])) both_rows (worked_in 1 (alone 2 2) (over_plays 1 4 []) first_row split_part)

abbrev pub all_changes : List Change
all_changes = worked_in 1 (prefix (1 ∷ [])) (over_plays 1 2 []) first_row (worked_in 2 (prefix (2 ∷ [])) (over_plays 3 11 (mark 1 1 1 ∷ [])) both_rows cap_part)

-- where one lane is free
abbrev pub free_with : List (List ℕ) → List Worked → Search
free_with splits worked = record { lanes = None ∷ []; splits = splits; worked = worked; stuck = [] }

abbrev pub four_worked : List Worked
four_worked =
    result (prefix (1 ∷ [])) (over_plays 1 2 []) first_row
    ∷ result (prefix (2 ∷ [])) (over_plays 3 11 (mark 1 1 1 ∷ [])) both_rows
    ∷ result (alone 2 1) (over_plays 3 5 (mark 2 2 1 ∷ [])) both_rows
    ∷ result (alone 2 2) (over_plays 1 4 []) first_row ∷ []

abbrev pub after_four : Search
after_four = free_with ([] ∷ []) four_worked

abbrev pub after_all : Search
after_all =
    free_with ([] ∷ (2 ∷ []) ∷ [])
    (result (prefix (1 ∷ [])) (over_plays 1 2 []) first_row
    ∷ result (prefix (2 ∷ [])) (over_plays 3 11 (mark 1 1 1 ∷ [])) both_rows
    ∷ result (alone 2 1) (over_plays 3 5 (mark 2 2 1 ∷ [])) both_rows
    ∷ result (alone 2 2) (over_plays 1 4 []) first_row
    ∷ result (prefix (2 ∷ 1 ∷ [])) (over_plays 3 16 (mark 2 2 2 ∷ [])) both_rows
    ∷ result (prefix (2 ∷ 2 ∷ [])) (over_plays 3 22 (mark 1 1 2 ∷ [])) both_rows ∷ [])

abbrev pub all_tree : Node
all_tree =
    split 1 None (parts_of (closed (over_plays 1 2 [])
    ∷ split 2 (Some (over_plays 3 11 (mark 1 1 1 ∷ []))) (parts_of (closed (over_plays 3 16 (mark 2 2 2 ∷ [])) ∷ closed (over_plays 3 22 (mark 1 1 2 ∷ [])) ∷ [])) ∷ []))

-- two lanes: one holds the first prefix
abbrev pub one_held : Search
one_held = with_lane (first_search (task 2)) 1 (begun (prefix (1 ∷ [])))

pub record WorkedSearches : Type 0 where
  -- the whole search, and what is read off its end
  pub runs : Runs (task 1) (first_search (task 1)) all_changes after_all
  pub tree : tree_of two_players after_all ≡ all_tree
  pub caps : caps_of two_players after_all ≡ two_caps
  pub best : incumbent (task 1) after_all ≡ two_to_one
  pub meet : is_open (task 1) after_all ≡ false
  -- before the split: the second prefix has the bound 23 / 6, above 11 / 3
  pub plain : caps_of two_players (first_search (task 1)) ≡ plain_cap 2 4
  pub still_open : is_open (task 1) after_four ≡ true
  pub second : own_bound two_players after_four (2 ∷ []) ≡ Some (record { num = pos 23; den = pos 6 })
  pub first : own_bound two_players after_four (1 ∷ []) ≡ Some (record { num = pos 6; den = pos 2 })
  -- two lanes: first there are four choices, and then three
  pub four : AreChoices (MayChoose (task 2) (first_search (task 2))) (prefix (1 ∷ []) ∷ prefix (2 ∷ []) ∷ alone 2 1 ∷ alone 2 2 ∷ [])
  pub three : AreChoices (MayChoose (task 2) one_held) (prefix (2 ∷ []) ∷ alone 2 1 ∷ alone 2 2 ∷ [])
  -- a lane that holds a node begins none, and one that holds none neither turns nor finishes
  pub busy : (n : ℕ) → ¬ (IsEnabled (task 2) one_held (Event.Begin 1 n))
  pub nothing_turns : ¬ (IsEnabled (task 2) one_held (Event.Turn 2))
  pub not_ended : ¬ (IsEnabled (task 2) one_held (Event.Finish 1))
  -- of three choices none has the number 3
  pub past_three : ¬ (IsEnabled (task 2) one_held (Event.Begin 2 3))
  -- there is no lane 0 and no third lane
  pub no_lane : (n : ℕ) → ¬ (IsEnabled (task 2) one_held (Event.Begin 0 n)) × ¬ (IsEnabled (task 2) one_held (Event.Begin 3 n))
