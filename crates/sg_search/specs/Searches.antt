-- The state of a search, branch and bound over the actions of the types: which nodes are known, and where each stands.
use Rattle.std.specs.Prelude.{◌≡◌, ℕ, ◌+◌, ◌≤◌, ◌⊎◌, ◌&&◌, nat_eq, Bool, false, List, [], ◌∷◌, ◌++◌, length, replicate, bytes_eq, count_by, is_some, Contains, Option, Some, None}
use Rattle.sg_model.specs.Sums.{nth}
use Rattle.sg_model.specs.Games.{Game, action_count}
use Rattle.sg_model.specs.declared.ticket.Ticket.{Ticket}
use Rattle.sg_tree.specs.declared.fix.Fix.{Fix}
use Rattle.sg_tree.specs.declared.worked.Worked.{Worked}
use Rattle.sg_bounds.specs.Regions.{alone, prefix}
use Rattle.sg_search.specs.declared.held.Held.{Held}
use Rattle.sg_search.specs.declared.held.Stuck.{Stuck}

-- what a search is about: a game, how many nodes may be in work at once, how many may be worked, and the first commitment
pub record Task : Type 0 where
  pub game : Game
  pub lanes : ℕ
  pub nodes : ℕ
  pub first : List Ticket

-- a search: what each lane holds, the prefixes that were split, and what was worked and what was stuck, in the order in
-- which the lanes finished. All else, tree, caps and incumbent, is read off these.
pub record Search : Type 0 where
  pub lanes : List (Option Held)
  pub splits : List (List ℕ)
  pub worked : List Worked
  pub stuck : List Stuck

-- at first the lanes are free, and the root, where nothing is fixed, is split
abbrev pub first_search : Task → Search
first_search p = record { lanes = replicate p.lanes None; splits = [] ∷ []; worked = []; stuck = [] }

-- what a lane holds, counted from 1
abbrev pub lane_at : Search → ℕ → Option Held
lane_at s lane = nth s.lanes lane None

-- whether two nodes are the same
abbrev pub same : Fix → Fix → Bool
same a b = nat_eq a.first b.first && bytes_eq a.acts b.acts

-- whether this is held
abbrev pub holds_node : Fix → Option Held → Bool
holds_node node None = false
holds_node node (Some h) = same node h.node

-- how many lanes hold a node, how often it was worked, and how often it was stuck
abbrev pub held_count : Search → Fix → ℕ
held_count s node = count_by (holds_node node) s.lanes

abbrev pub worked_count : Search → Fix → ℕ
worked_count s node = count_by (λ (w : Worked). same node w.fix) s.worked

abbrev pub stuck_count : Search → Fix → ℕ
stuck_count s node = count_by (λ (x : Stuck). same node x.node) s.stuck

-- in how many places other than waiting it is
abbrev pub taken_count : Search → Fix → ℕ
taken_count s node = held_count s node + worked_count s node + stuck_count s node

-- how many lanes are at work
abbrev pub busy_count : Search → ℕ
busy_count s = count_by is_some s.lanes

-- a part of a split: one more type is fixed, to one of its actions
pub record IsPartOf (g : Game) (acts : List ℕ) (node : Fix) : Type 0 where
  pub act : ℕ
  pub from_one : 1 ≤ act
  pub in_range : act ≤ action_count g (length acts + 1)
  pub node_is : node ≡ prefix (acts ++ (act ∷ []))

abbrev pub IsPart : Game → List (List ℕ) → Fix → Type 0
IsPart g splits node = (acts : List ℕ) × Contains splits acts × IsPartOf g acts node

-- a node that serves the cap of a type: that type alone is fixed
pub record IsCapNode (g : Game) (node : Fix) : Type 0 where
  pub l : ℕ
  pub act : ℕ
  pub from_two : 2 ≤ l
  pub type_in_range : l ≤ length g.types
  pub from_one : 1 ≤ act
  pub in_range : act ≤ action_count g l
  pub node_is : node ≡ alone l act

-- a node is known where it is a part of a split, or serves a cap
abbrev pub IsKnown : Game → Search → Fix → Type 0
IsKnown g s node = IsPart g s.splits node ⊎ IsCapNode g node

-- a known node waits where it is in no other place
abbrev pub Waits : Game → Search → Fix → Type 0
Waits g s node = IsKnown g s node × (taken_count s node ≡ 0)

-- each node is in one place at most, held, worked or stuck, and in none of these but where it is known: so each known node
-- is in exactly one, where a node that is in none of them waits
pub record ArePlaced (g : Game) (s : Search) : Type 0 where
  pub once : (node : Fix) → taken_count s node ≤ 1
  pub known : (node : Fix) → 1 ≤ taken_count s node → IsKnown g s node
