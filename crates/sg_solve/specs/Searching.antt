-- The search by which a game without a scale is solved: what it is about, and which of its states it comes to.
use Rattle.std.specs.Prelude.{◌≡◌, ℕ, ◌+◌, nat_eq, if◌then◌else◌, List, [], ◌∷◌, ◌++◌, fold, All, true, false}
use Rattle.sg_options.specs.declared.budget.Budget.{Budget}
use Rattle.sg_options.specs.declared.order.Order.{Order}
use Rattle.sg_model.specs.Games.{Game}
use Rattle.sg_tree.specs.declared.fix.Fix.{Fix}
use Rattle.sg_tree.specs.declared.worked.Worked.{Worked}
use Rattle.sg_search.specs.declared.held.Stuck.{Stuck}
use Rattle.sg_search.specs.Searches.{Search, Task, first_search}
use Rattle.sg_search.specs.Changes.{Change, Goes, Holds, branches, ends, moves, sticks, takes, works}
use Rattle.sg_search.specs.Events.{IsEnd, lane_of}
use Rattle.sg_programs.specs.Enough.{node_budget}
use Rattle.sg_programs.specs.NodeTests.{ClosesNode, EndsNode, Method, StopsNode, listed_plays}
use Rattle.sg_lanes.specs.Machines.{task_on}
use Rattle.sg_selection.specs.Selections.{SelectionState, first_selection}
use Rattle.sg_selection.specs.SelectedRuns.{MadeEvent, SelectedRuns}

-- the nodes are worked over the listed plays, with the budget's moves and looks
abbrev pub method_of : Game → Budget → Method
method_of g b = listed_plays g b.pivots b.looks

-- in the order's lanes, and no more of them than the node budget
abbrev pub task_of : Game → Budget → Order → Task
task_of g b o = task_on g o.lanes (node_budget g b.nodes)

-- ---- the turns of a node's program

-- how many moves the program of a lane's node has made after a change of this lane
abbrev pub moves_by : Change → ℕ → ℕ
moves_by (takes lane node) k = 0
moves_by (branches lane acts) k = 0
moves_by (moves lane) k = k + 1
moves_by (ends lane) k = k
moves_by (works lane fact point) k = k
moves_by (sticks lane cause) k = k

-- how many it has made after these events
abbrev pub moves_after : ℕ → ℕ → MadeEvent → ℕ
moves_after lane k m = if nat_eq (lane_of m.event) lane then moves_by m.change k else k

abbrev pub moves_made : ℕ → List MadeEvent → ℕ
moves_made lane events = fold (moves_after lane) 0 events

-- a turn ends the program of the lane's node exactly where it is at its end after so many moves; other changes are no turns
abbrev pub IsDueTurn : Game → Method → Search → ℕ → Change → Type 0
IsDueTurn g m s k (takes lane node) = Unit {0}
IsDueTurn g m s k (branches lane acts) = Unit {0}
IsDueTurn g m s k (moves lane) = (node : Fix) → Holds s lane node false → ¬ (EndsNode g m node k)
IsDueTurn g m s k (ends lane) = (node : Fix) → Holds s lane node false → EndsNode g m node k
IsDueTurn g m s k (works lane fact point) = Unit {0}
IsDueTurn g m s k (sticks lane cause) = Unit {0}

-- at a state after some events all turns of further events are due
abbrev pub AreTurnsDue : Task → Method → List MadeEvent → Search → List MadeEvent → Type 0
AreTurnsDue p m before s [] = Unit {0}
AreTurnsDue p m before s (e ∷ es) =
    IsDueTurn p.game m s (moves_made (lane_of e.event) before) e.change × ((u : Search) → Goes p s e.change u → AreTurnsDue p m (before ++ e ∷ []) u es)

-- ---- where it comes to

-- events that the order names lead to this state from the first, and no other events; each turn among them is due; and what was worked closes its node,
-- and what was stuck stops it
pub record IsComeTo (g : Game) (b : Budget) (o : Order) (events : List MadeEvent) (c : SelectionState) (t : Search) : Type 0 where
  pub selected : SelectedRuns (task_of g b o) (first_selection o) (first_search (task_of g b o)) events c t
  pub due : AreTurnsDue (task_of g b o) (method_of g b) [] (first_search (task_of g b o)) events
  pub closed : All (λ (w : Worked). ClosesNode g (method_of g b) w.fix w.fact w.point) t.worked
  pub stopped : All (λ (x : Stuck). StopsNode g (method_of g b) x.node x.cause) t.stuck

-- and there no event is enabled
pub record IsEndOfSearch (g : Game) (b : Budget) (o : Order) (t : Search) : Type 0 where
  pub events : List MadeEvent
  pub selection : SelectionState
  pub come : IsComeTo g b o events selection t
  pub end : IsEnd (task_of g b o) t
