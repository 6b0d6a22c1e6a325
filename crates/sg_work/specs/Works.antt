-- The work on nodes: what each lane holds, and what its calls leave and answer.
use Rattle.std.specs.Prelude.{◌≡◌, ◌↔◌, ℕ, ◌+◌, ◌-◌, ◌<◌, ◌≤◌, Bool, true, false, List, length, set, Option, Some, None}
use Rattle.sg_model.specs.Sums.{nth}
use Rattle.sg_model.specs.Games.{Game}
use Rattle.sg_commit.specs.Committed.{Committed}
use Rattle.sg_tree.specs.declared.fact.Fact.{Fact}
use Rattle.sg_tree.specs.declared.fix.Fix.{Fix}
use Rattle.sg_tree.specs.declared.report.Cause.{Cause}
use Rattle.sg_search.specs.declared.held.Held.{Held}
use Rattle.sg_search.specs.Results.{IsResult}
use Rattle.sg_work.specs.declared.work.Step.{Step}
use Rattle.sg_work.specs.declared.work.Ended.{Ended}
use Rattle.sg_work.specs.declared.work.Ended.TheVariants.{Worked, Stuck}

-- what a lane works on: a node, how many moves its program made, and whether it has ended
pub record Load : Type 0 where
  pub node : Fix
  pub moves : ℕ
  pub ended : Bool

-- what a lane holds, counted from 1
abbrev pub load_at : List (Option Load) → ℕ → Option Load
load_at loads lane = nth loads lane None

-- a lane's load as the search sees it
abbrev pub held_by : Option Load → Option Held
held_by None = None
held_by (Some l) = Some (record { node = l.node; ended = l.ended })

-- a lane that holds nothing
pub record IsUnloaded (loads : List (Option Load)) (lane : ℕ) : Type 0 where
  pub from_one : 1 ≤ lane
  pub in_range : lane ≤ length loads
  pub nothing : load_at loads lane ≡ None

-- a lane that holds a node whose program goes on, or has ended
pub record IsLoaded (loads : List (Option Load)) (lane : ℕ) (ended : Bool) : Type 0 where
  pub load : Load
  pub from_one : 1 ≤ lane
  pub in_range : lane ≤ length loads
  pub held : load_at loads lane ≡ Some load
  pub state : load.ended ≡ ended

-- a lane is given a load, or nothing
abbrev pub with_load : List (Option Load) → ℕ → Option Load → List (Option Load)
with_load loads lane l = set loads (lane - 1) l

-- a node that has just begun
abbrev pub begun_load : Fix → Option Load
begun_load node = Some (record { node = node; moves = 0; ended = false })

-- the tests of a work say the same before and after
pub record AreSameTests (ends : Fix → ℕ → Type 0) (closes : Fix → Fact → Option Committed → Type 0) (stops : Fix → Cause → Type 0)
    (ends_after : Fix → ℕ → Type 0) (closes_after : Fix → Fact → Option Committed → Type 0) (stops_after : Fix → Cause → Type 0) : Type 0 where
  pub end_alike : (node : Fix) (moves : ℕ) → ends node moves ↔ ends_after node moves
  pub close_alike : (node : Fix) (fact : Fact) (point : Option Committed) → closes node fact point ↔ closes_after node fact point
  pub stop_alike : (node : Fix) (cause : Cause) → stops node cause ↔ stops_after node cause

-- a step of a lane's program: it ends exactly where the test of ends says so, and else makes one more move, which it does only so many times
abbrev pub IsStep : (Fix → ℕ → Type 0) → ℕ → List (Option Load) → List (Option Load) → ℕ → Step → Type 0
IsStep ends most loads after lane Step.Moved =
    (l : Load) × (load_at loads lane ≡ Some l) × ¬ (ends l.node l.moves) × (after ≡ with_load loads lane (Some (record { node = l.node; moves = l.moves + 1; ended = l.ended }))) × (l.moves < most)
IsStep ends most loads after lane Step.Ended = (l : Load) × (load_at loads lane ≡ Some l) × ends l.node l.moves × (after ≡ with_load loads lane (Some (record { node = l.node; moves = l.moves; ended = true })))

-- what the work on a lane's node came to: a result that passes the test of closes, or a cause that passes the test of stops
abbrev pub IsFinding : Game → (Fix → Fact → Option Committed → Type 0) → (Fix → Cause → Type 0) → List (Option Load) → ℕ → Ended → Type 0
IsFinding g closes stops loads lane (Worked fact point) =
    (l : Load) × (load_at loads lane ≡ Some l) × closes l.node fact point × IsResult g (record { fix = l.node; fact = fact; point = point })
IsFinding g closes stops loads lane (Stuck cause) = (l : Load) × (load_at loads lane ≡ Some l) × stops l.node cause
