-- Ends of small searches with their reports, worked out by hand.
use Rattle.std.specs.Prelude.{◌≡◌, ℕ, List, [], ◌∷◌, None}
use Rattle.sg_model.specs.Examples.{one_player}
use Rattle.sg_tree.specs.declared.report.Cause.{Cause}
use Rattle.sg_tree.specs.declared.report.Cause.TheVariants as cause
use Rattle.sg_tree.specs.declared.report.Ending.TheVariants.{Gap}
use Rattle.sg_tree.specs.declared.report.Report.{Report}
use Rattle.sg_tree.specs.declared.tree.Tree.TheVariants.{Split, Unproved}
use Rattle.sg_bounds.specs.Examples.{one_alone, over, reported}
use Rattle.sg_bounds.specs.Regions.{prefix}
use Rattle.sg_search.specs.Searches.{Task, Search, first_search}
use Rattle.sg_search.specs.Changes.{Change, ends, sticks, takes}
use Rattle.sg_programs.specs.Enough.{node_budget}
use Rattle.sg_programs.specs.NodeTests.{Method, listed_plays}
use Rattle.sg_gap_laws.specs.Ends.{HasEnded, IsEndReport}

-- the game of one type, whose first commitment is the first row; so many nodes may be worked
abbrev pub small_task : ℕ → Task
small_task nodes = record { game = one_player; lanes = 1; nodes = nodes; first = one_alone }

-- its plays listed, and no look at any
abbrev pub without_looks : Method
without_looks = listed_plays one_player 100 0

-- looks are spent at the start of this action's node
abbrev pub unseen : ℕ → Cause
unseen act = cause.Looks 0 0 (prefix (act ∷ []))

-- its node is begun, ends at once and is stuck
abbrev pub passed_over : ℕ → List Change → List Change
passed_over act rest = takes 1 (prefix (act ∷ [])) ∷ ends 1 ∷ sticks 1 (unseen act) ∷ rest

-- with both nodes stuck
abbrev pub both_stuck : Search
both_stuck = record {
  lanes = None ∷ [];
  splits = [] ∷ [];
  worked = [];
  stuck = record { node = prefix (1 ∷ []); cause = unseen 1 } ∷ record { node = prefix (2 ∷ []); cause = unseen 2 } ∷ [];
}

-- both parts are open: the value is 2, and the upper bound the defender's greatest payoff, 4
abbrev pub both_open : Cause → Report
both_open why = reported one_alone 1 (over 2 1) [] (Split 1 None (Unproved ∷ Unproved ∷ [])) (over 4 1) (Gap why)

pub record WorkedEnds : Type 0 where
  -- no node may be worked: the search ends at its start
  pub at_once : HasEnded one_player without_looks (small_task 0) (first_search (small_task 0))
  pub no_nodes : 0 ≡ node_budget one_player 0
  pub spent : IsEndReport (small_task 0) (first_search (small_task 0)) (both_open (cause.Nodes 0))
  -- no column may be looked at: both nodes are stuck, and the report has the cause of the first
  pub stuck : HasEnded one_player without_looks (small_task 10) both_stuck
  pub ten_nodes : 10 ≡ node_budget one_player 10
  pub first : IsEndReport (small_task 10) both_stuck (both_open (unseen 1))
