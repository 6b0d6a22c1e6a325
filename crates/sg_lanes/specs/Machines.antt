-- The machine of a search as its callers see it, and how it answers events.
use Rattle.std.specs.Prelude.{◌≡◌, ℕ, ◌+◌, ◌<◌, ◌⊎◌, List, [], ◌∷◌, map, pos, All, Option, Some, None, true}
use Rattle.sg_model.specs.Games.{Game}
use Rattle.sg_model.specs.declared.ticket.Ticket.{Ticket}
use Rattle.sg_game.specs.Counting.{least_code}
use Rattle.sg_commit.specs.Committed.{Committed}
use Rattle.sg_frac.specs.Fractions.{Fraction, IsReducedForm}
use Rattle.sg_tree.specs.declared.fact.Fact.{Fact}
use Rattle.sg_tree.specs.declared.fix.Fix.{Fix}
use Rattle.sg_tree.specs.declared.report.Cause.{Cause}
use Rattle.sg_tree.specs.declared.worked.Worked.{Worked}
use Rattle.sg_search.specs.declared.held.Stuck.{Stuck}
use Rattle.sg_search.specs.declared.event.Event.{Event}
use Rattle.sg_search.specs.declared.event.Outcome.{Outcome}
use Rattle.sg_search.specs.declared.event.Ready.{Ready}
use Rattle.sg_search.specs.Searches.{Task, Search}
use Rattle.sg_search.specs.Changes.{Change, works, sticks, Goes}
use Rattle.sg_search.specs.Results.{IsResult}
use Rattle.sg_work.specs.declared.work.Ended.{Ended}
use Rattle.sg_search.specs.Events.{IsChoice, IsEnabled, IsOf, IsRank, Tells, event_outcome, lane_of}
use Rattle.sg_work.specs.Works.{Load, begun_load, held_by, load_at, with_load}

-- a search, with what it is about
pub record Machine : Type 0 where
  pub task : Task
  pub search : Search

-- the first commitment: all idle, or row 1, with one ticket
abbrev pub first_tickets : Game → List Ticket
first_tickets g = record { play = record { code = least_code g }; weight = pos 1 } ∷ []

abbrev pub task_on : Game → ℕ → ℕ → Task
task_on g lanes nodes = record { game = g; lanes = lanes; nodes = nodes; first = first_tickets g }

-- a work does what a machine asks: on the same game each lane holds the same node, ended or not alike, and the worked and stuck nodes pass the tests of the work
pub record IsTogether (game : Game) (loads : List (Option Load)) (closes : Fix → Fact → Option Committed → Type 0) (stops : Fix → Cause → Type 0) (m : Machine) : Type 0 where
  pub same_game : game ≡ m.task.game
  pub same_lanes : map held_by loads ≡ m.search.lanes
  pub all_closed : All (λ (w : Worked). closes w.fix w.fact w.point) m.search.worked
  pub all_stopped : All (λ (x : Stuck). stops x.node x.cause) m.search.stuck

-- an event is answered by a change that it may come to, or where it is not enabled, and only there, by `Idle`, and then nothing changes
abbrev pub IsAnsweredBy : Task → Search → Event → Outcome → Search → Type 0
IsAnsweredBy p s e o t = ((c : Change) × IsOf p s e c × Goes p s c t × (o ≡ event_outcome c)) ⊎ ((IsEnabled p s e → ⊥) × (t ≡ s) × (o ≡ Outcome.Idle))

-- what an event leaves the lanes of the work with, by its answer: the lane holds a node that has just begun, a program that made one more move, of which
-- there are only so many, a program that has ended, or nothing; and after `Idle` all is as before
abbrev pub LeavesLoads : ℕ → List (Option Load) → Event → Outcome → List (Option Load) → Type 0
LeavesLoads most loads e Outcome.Idle after = after ≡ loads
LeavesLoads most loads e (Outcome.Took node) after = after ≡ with_load loads (lane_of e) (begun_load node)
LeavesLoads most loads e Outcome.Moved after =
    (l : Load) × (load_at loads (lane_of e) ≡ Some l) × (l.moves < most) × (after ≡ with_load loads (lane_of e) (Some (record { node = l.node; moves = l.moves + 1; ended = l.ended })))
LeavesLoads most loads e Outcome.Ended after =
    (l : Load) × (load_at loads (lane_of e) ≡ Some l) × (after ≡ with_load loads (lane_of e) (Some (record { node = l.node; moves = l.moves; ended = true })))
LeavesLoads most loads e Outcome.Closed after = after ≡ with_load loads (lane_of e) None

-- some lane is told that it may choose among more than n
pub record IsNumber (p : Task) (s : Search) (n : ℕ) : Type 0 where
  pub lane : ℕ
  pub count : ℕ
  pub told : Tells p s lane (Ready.Begin count)
  pub below : n < count

-- the bound by which choice n is ranked, in lowest terms
pub record IsRankOf (p : Task) (s : Search) (n : ℕ) (b : Fraction) : Type 0 where
  pub node : Fix
  pub bound : Fraction
  pub choice : IsChoice p s n node
  pub rank : IsRank p s node bound
  pub equal : IsReducedForm bound.num bound.den b

-- the change that what the work came to makes in a lane
abbrev pub change_of : ℕ → Ended → Change
change_of lane (Ended.Worked fact point) = works lane fact point
change_of lane (Ended.Stuck cause) = sticks lane cause

-- a node that was worked has a result
abbrev pub GivesResult : Game → Fix → Ended → Type 0
GivesResult g node (Ended.Worked fact point) = IsResult g (record { fix = node; fact = fact; point = point })
GivesResult g node (Ended.Stuck cause) = Unit {0}
