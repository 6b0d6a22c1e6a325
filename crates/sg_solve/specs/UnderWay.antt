-- A search on its way, with the work on its nodes and the selection of its events; and how many events are left at most.
use Rattle.std.specs.Prelude.{◌≡◌, ℕ, ◌+◌, ◌-◌, ◌*◌, ◌<◌, ◌≤◌, if◌then◌else◌, List, length, sum_by, slice_index_or, All, Option, Some, None}
use Rattle.sg_options.specs.declared.budget.Budget.{Budget}
use Rattle.sg_options.specs.declared.order.Order.{Order}
use Rattle.sg_model.specs.Games.{Game}
use Rattle.sg_search.specs.declared.event.Ready.{Ready}
use Rattle.sg_search.specs.Searches.{Search, busy_count}
use Rattle.sg_search.specs.CountLaws.{enough_nodes}
use Rattle.sg_search.specs.Events.{Tells}
use Rattle.sg_search.specs.Results.{IsResult}
use Rattle.sg_programs.specs.NodeTests.{ClosesNode, EndsNode, Method, StopsNode, listed_plays}
use Rattle.sg_work.specs.Works.{AreSameTests, Load, load_at}
use Rattle.sg_desk.specs.Desks.{DeskView}
use Rattle.sg_lanes.specs.Machines.{IsTogether, Machine}
use Rattle.sg_selection.specs.Selections.{SelectionState}
use Rattle.sg_selection.specs.SelectedRuns.{MadeEvent}
use Rattle.sg_solve.specs.Searching.{IsComeTo, method_of, moves_made, task_of}

-- how a desk works nodes
abbrev pub desk_method : DeskView → Method
desk_method d = listed_plays d.game d.pivots d.looks

-- a desk's tests are those of the search
abbrev pub HasTests : Game → Method → DeskView → Type 0
HasTests g m d = AreSameTests (EndsNode g m) (ClosesNode g m) (StopsNode g m) (EndsNode d.game (desk_method d)) (ClosesNode d.game (desk_method d)) (StopsNode d.game (desk_method d))

-- the machine and the desk have come where the events lead to that were named, and each node in work has made as many moves as these made
pub record IsUnderWay (g : Game) (b : Budget) (o : Order) (c : SelectionState) (m : Machine) (d : DeskView) : Type 0 where
  pub about : m.task ≡ task_of g b o
  pub same_lanes : length m.search.lanes ≡ o.lanes
  pub events : List MadeEvent
  pub come : IsComeTo g b o events c m.search
  pub results : All (IsResult g) m.search.worked
  pub tests : HasTests g (method_of g b) d
  pub together : IsTogether d.game d.loads (ClosesNode d.game (desk_method d)) (StopsNode d.game (desk_method d)) m
  pub moves : (lane : ℕ) (l : Load) → load_at d.loads lane ≡ Some l → l.moves ≡ moves_made lane events

-- ---- what the lanes are told

-- the first lanes are told what may happen in them, lane 1 first
abbrev pub AreTold : Machine → ℕ → List Ready → Type 0
AreTold m count ready = (place : ℕ) → place < count → Tells m.task m.search (place + 1) (slice_index_or ready place Ready.Nothing)

-- ---- how many events are left

-- of a lane's node: its moves, its last turn and its finish
abbrev pub load_left : ℕ → Option Load → ℕ
load_left most None = 0
load_left most (Some l) = if l.ended then 1 else most - l.moves + 2

-- how many nodes are in work, worked or stuck
abbrev pub nodes_taken : Search → ℕ
nodes_taken s = busy_count s + length s.worked + length s.stuck

-- at most: each node that isn't taken may begin, move, end and finish
abbrev pub events_left : ℕ → Machine → List (Option Load) → ℕ
events_left most m loads = (enough_nodes m.task.game - nodes_taken m.search) * (most + 3) + sum_by (load_left most) loads
