-- Counts by target, and the plays that go to targets.
use Rattle.std.specs.Prelude.{◌≡◌, ℕ, ◌+◌, ◌≤◌, ◌<◌, true, List, [], ◌∷◌, length, ℤ, pos, slice_index, slice_index_or}
use Rattle.sg_model.specs.declared.ticket.Ticket.{Ticket}
use Rattle.sg_model.specs.Sums.{nth}
use Rattle.sg_model.specs.Games.{Game, resource_count, resource_schedules, schedule_targets}
use Rattle.sg_game.specs.Counts.{IsGoalOf}
use Rattle.sg_bounds.specs.Coverage.{choice_holds}
use Rattle.sg_matchings.specs.declared.part.Part.{Part}
use Rattle.sg_split.specs.Matched.{target_share}

-- target t is the one of choice j of resource r
pub record IsTargetOf (g : Game) (r j t : ℕ) : Type 0 where
  pub own : schedule_targets g (nth (resource_schedules g r) j 0) ≡ t ∷ []
  pub known : (1 ≤ t) × (t ≤ length g.goals)

-- the counts of a resource's choices, by target
pub record IsTargetRow (g : Game) (r : ℕ) (counts : List ℤ) (row : List ℤ) : Type 0 where
  pub long : length row ≡ length g.goals
  pub each : (t : ℕ) → t < length g.goals → slice_index_or row t (pos 0) ≡ target_share g r counts (t + 1)

-- the same for all resources
pub record AreTargetRows (g : Game) (counts : List (List ℤ)) (rows : List (List ℤ)) : Type 0 where
  pub long : length rows ≡ resource_count g
  pub each : (i : ℕ) → i < length rows → IsTargetRow g (i + 1) (nth counts (i + 1) []) (slice_index_or rows i [])

-- choice j of resource r holds target t
pub record IsChoiceTo (g : Game) (r t j : ℕ) : Type 0 where
  pub from_one : 1 ≤ j
  pub in_list : j ≤ length (resource_schedules g r)
  pub holds : choice_holds g r j t ≡ true

-- some choice of resource r holds target t
abbrev pub HasChoiceTo : Game → ℕ → ℕ → Type 0
HasChoiceTo g r t = (j : ℕ) × IsChoiceTo g r t j

-- the choice of resource r for a column: one that holds the target of that number, counted from 0, or idle where it is no target
pub record IsChoiceFor (g : Game) (r column j : ℕ) : Type 0 where
  pub inside : column < length g.goals → IsChoiceTo g r (column + 1) j
  pub outside : length g.goals ≤ column → j ≡ 0

-- each column that is a target is one that its resource can go to
pub record AreServed (g : Game) (columns : List ℕ) : Type 0 where
  pub one_each : length columns ≡ resource_count g
  pub each : (i : ℕ) → i < resource_count g → slice_index columns i < length g.goals → HasChoiceTo g (i + 1) (slice_index columns i + 1)

-- the play in which each resource goes to the target of its column
pub record IsPlayFor (g : Game) (columns code : List ℕ) : Type 0 where
  pub one_each : length code ≡ resource_count g
  pub each : (i : ℕ) → i < resource_count g → IsChoiceFor g (i + 1) (slice_index columns i) (slice_index code i)

-- a ticket with this play and the part's weight
pub record IsTicketFor (g : Game) (part : Part) (x : Ticket) : Type 0 where
  pub play : IsPlayFor g part.columns x.play.code
  pub weight : x.weight ≡ part.weight

-- a ticket for each part
pub data AreTicketsFor (g : Game) : List Part → List Ticket → Type 0 where
  none : AreTicketsFor g [] []
  more : (part : Part) (parts : List Part) (x : Ticket) (xs : List Ticket) → IsTicketFor g part x → AreTicketsFor g parts xs → AreTicketsFor g (part ∷ parts) (x ∷ xs)
