-- The changes of a search: an event with what the node's program answered, when it may happen, and the state that it leaves.
use Rattle.std.specs.Prelude.{◌≡◌, ◌≢◌, ℕ, ◌+◌, ◌-◌, ◌<◌, ◌≤◌, ◌⊎◌, Bool, true, false, List, [], ◌∷◌, ◌++◌, length, set, Option, Some, None}
use Rattle.sg_model.specs.Games.{Game}
use Rattle.sg_commit.specs.Committed.{Committed}
use Rattle.sg_tree.specs.declared.fact.Fact.{Fact}
use Rattle.sg_tree.specs.declared.fix.Fix.{Fix}
use Rattle.sg_tree.specs.declared.report.Cause.{Cause}
use Rattle.sg_bounds.specs.Regions.{prefix}
use Rattle.sg_search.specs.declared.held.Held.{Held}
use Rattle.sg_search.specs.Searches.{Task, Search, lane_at, worked_count, stuck_count, busy_count, IsPartOf, IsCapNode, Waits}
use Rattle.sg_search.specs.Bounding.{inherited, is_open, is_over, is_split, own_bound}

-- a change: an event of one lane, and what the node's program answered to it
pub data Change : Type 0 where
  -- the lane begins a node that waits
  takes : ℕ → Fix → Change
  -- the lane begins the first part of a prefix that is split for it
  branches : ℕ → List ℕ → Change
  -- a turn of the node's program, which goes on
  moves : ℕ → Change
  -- a turn that ends it
  ends : ℕ → Change
  -- the lane finishes a node: it was worked, with its fact and its point
  works : ℕ → Fact → Option Committed → Change
  -- or it was stuck
  sticks : ℕ → Cause → Change

-- a lane is one of the search's, counted from 1, and holds nothing
pub record IsFree (s : Search) (lane : ℕ) : Type 0 where
  pub from_one : 1 ≤ lane
  pub in_range : lane ≤ length s.lanes
  pub nothing : lane_at s lane ≡ None

-- it holds this node, whose program has ended or not
pub record Holds (s : Search) (lane : ℕ) (node : Fix) (ended : Bool) : Type 0 where
  pub from_one : 1 ≤ lane
  pub in_range : lane ≤ length s.lanes
  pub held : lane_at s lane ≡ Some (record { node = node; ended = ended })

-- a waiting prefix may be taken where its inherited bound is above the incumbent, and a cap node where it waits
abbrev pub IsWorthTaking : Task → Search → Fix → Type 0
IsWorthTaking p s node = ((acts : List ℕ) × IsPartOf p.game acts node × (is_over p s (inherited p.game s acts) ≡ true)) ⊎ IsCapNode p.game node

pub record MayTake (p : Task) (s : Search) (node : Fix) : Type 0 where
  pub waits : Waits p.game s node
  pub worth : IsWorthTaking p s node

-- a worked prefix that isn't split and leaves a type open may be split where its bound is above the incumbent
pub record MaySplit (p : Task) (s : Search) (acts : List ℕ) : Type 0 where
  pub some : acts ≢ []
  pub worked : 1 ≤ worked_count s (prefix acts)
  pub unsplit : is_split s.splits acts ≡ false
  pub short : length acts < length p.game.types
  pub over : is_over p s (own_bound p.game s acts) ≡ true

-- no cap node waits or is held
abbrev pub CapsAreDone : Game → Search → Type 0
CapsAreDone g s = (node : Fix) → IsCapNode g node → 1 ≤ worked_count s node + stuck_count s node

-- a lane may begin: it is free, the nodes worked and held are fewer than the budget, and the upper bound is above the incumbent
pub record MayBegin (p : Task) (s : Search) (lane : ℕ) : Type 0 where
  pub free : IsFree s lane
  pub room : length s.worked + busy_count s < p.nodes
  pub open_yet : is_open p s ≡ true

-- a lane is given something to hold, or nothing
abbrev pub with_lane : Search → ℕ → Option Held → Search
with_lane s lane h = record s { lanes = set s.lanes (lane - 1) h }

-- a node that has just begun
abbrev pub begun : Fix → Option Held
begun node = Some (record { node = node; ended = false })

-- the first part of a prefix
abbrev pub first_part : List ℕ → Fix
first_part acts = prefix (acts ++ (1 ∷ []))

-- the change may happen at s, and leaves t
abbrev pub Goes : Task → Search → Change → Search → Type 0
Goes p s (takes lane node) t = MayBegin p s lane × MayTake p s node × (t ≡ with_lane s lane (begun node))
Goes p s (branches lane acts) t =
    MayBegin p s lane × ((node : Fix) → ¬ (MayTake p s node)) × CapsAreDone p.game s × MaySplit p s acts
    × (t ≡ record (with_lane s lane (begun (first_part acts))) { splits = s.splits ++ (acts ∷ []) })
Goes p s (moves lane) t = (node : Fix) × Holds s lane node false × (t ≡ s)
Goes p s (ends lane) t = (node : Fix) × Holds s lane node false × (t ≡ with_lane s lane (Some (record { node = node; ended = true })))
Goes p s (works lane fact point) t =
    (node : Fix) × Holds s lane node true × (t ≡ record (with_lane s lane None) { worked = s.worked ++ (record { fix = node; fact = fact; point = point } ∷ []) })
Goes p s (sticks lane cause) t =
    (node : Fix) × Holds s lane node true × (t ≡ record (with_lane s lane None) { stuck = s.stuck ++ (record { node = node; cause = cause } ∷ []) })

-- these changes, one after the other, lead from s to t
abbrev pub Runs : Task → Search → List Change → Search → Type 0
Runs p s [] t = s ≡ t
Runs p s (c ∷ cs) t = (u : Search) × Goes p s c u × Runs p u cs t

-- no change may happen
abbrev pub IsStill : Task → Search → Type 0
IsStill p s = (c : Change) (t : Search) → ¬ (Goes p s c t)
