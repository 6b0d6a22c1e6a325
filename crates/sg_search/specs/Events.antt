-- The events of a search as they are asked of a lane: among which nodes it may choose, what may happen, and how it is answered.
use Rattle.std.specs.Prelude.{◌≡◌, ℕ, ◌<◌, ◌≤◌, ◌⊎◌, List, ◌∷◌, slice_get, AllPairs, Contains, ◌↔◌, Some, Bool, true}
use Rattle.std.specs.Ordering.{nat_cmp, is_lt}
use Rattle.std.specs.Cmp.Lexicographic.{slice_cmp}
use Rattle.sg_frac.specs.Fractions.{Fraction}
use Rattle.sg_tree.specs.declared.fix.Fix.{Fix}
use Rattle.sg_bounds.specs.Regions.{prefix}
use Rattle.sg_bounds.specs.Leaves.{root_bound}
use Rattle.sg_search.specs.declared.event.Event.{Event}
use Rattle.sg_search.specs.declared.event.Event.TheVariants.{Begin, Turn, Finish}
use Rattle.sg_search.specs.declared.event.Outcome.{Outcome}
use Rattle.sg_search.specs.declared.event.Outcome.TheVariants.{Took, Moved, Ended, Closed}
use Rattle.sg_search.specs.declared.event.Ready.{Ready}
use Rattle.sg_search.specs.Searches.{Task, Search, IsPartOf, IsCapNode}
use Rattle.sg_search.specs.Bounding.{inherited, own_bound}
use Rattle.sg_search.specs.Changes.{Change, takes, branches, moves, ends, works, sticks, CapsAreDone, Goes, MaySplit, MayTake, first_part}

-- ---- the numbers of choices

-- the order of nodes: prefixes by their lists, then the cap nodes by type and action
abbrev pub comes_first : Fix → Fix → Bool
comes_first a b = is_lt (slice_cmp nat_cmp (a.first ∷ a.acts) (b.first ∷ b.acts))

-- the list of exactly those that may be chosen, in order
pub record AreChoices (May : Fix → Type 0) (nodes : List Fix) : Type 0 where
  pub in_order : AllPairs (λ a b. comes_first a b ≡ true) nodes
  pub each : (node : Fix) → Contains nodes node ↔ May node

-- a prefix is chosen to be split only where no node may be taken and no cap node waits or is held
pub record MayBranch (p : Task) (s : Search) (node : Fix) : Type 0 where
  pub acts : List ℕ
  pub node_is : node ≡ prefix acts
  pub nothing : (other : Fix) → ¬ (MayTake p s other)
  pub caps : CapsAreDone p.game s
  pub split : MaySplit p s acts

-- what a lane may choose: a node to take, or a prefix to split
abbrev pub MayChoose : Task → Search → Fix → Type 0
MayChoose p s node = MayTake p s node ⊎ MayBranch p s node

-- choice n, from 0
pub record IsChoice (p : Task) (s : Search) (n : ℕ) (node : Fix) : Type 0 where
  pub nodes : List Fix
  pub choices : AreChoices (MayChoose p s) nodes
  pub place : slice_get nodes n ≡ Some node

-- the bound by which a choice is ranked: of a cap node that of the root, of a part the one that it inherits, of a prefix to be split its own
abbrev pub IsRank : Task → Search → Fix → Fraction → Type 0
IsRank p s node b =
    (IsCapNode p.game node × (b ≡ root_bound p.game))
    ⊎ (((acts : List ℕ) × IsPartOf p.game acts node × MayTake p s node × (inherited p.game s acts ≡ Some b))
    ⊎ (MayBranch p s node × (own_bound p.game s node.acts ≡ Some b)))

-- ---- what may happen

-- the lane that an event is asked of
abbrev pub lane_of : Event → ℕ
lane_of (Begin lane n) = lane
lane_of (Turn lane) = lane
lane_of (Finish lane) = lane

-- the changes that an event may come to
abbrev pub IsOf : Task → Search → Event → Change → Type 0
IsOf p s (Begin lane n) (takes l node) = (l ≡ lane) × IsChoice p s n node
IsOf p s (Begin lane n) (branches l acts) = (l ≡ lane) × IsChoice p s n (prefix acts)
IsOf p s (Begin lane n) c = ⊥
IsOf p s (Turn lane) (moves l) = l ≡ lane
IsOf p s (Turn lane) (ends l) = l ≡ lane
IsOf p s (Turn lane) c = ⊥
IsOf p s (Finish lane) (works l fact point) = l ≡ lane
IsOf p s (Finish lane) (sticks l cause) = l ≡ lane
IsOf p s (Finish lane) c = ⊥

-- an event is enabled where one of its changes may happen
abbrev pub IsEnabled : Task → Search → Event → Type 0
IsEnabled p s e = (c : Change) × (t : Search) × IsOf p s e c × Goes p s c t

-- no event is enabled
abbrev pub IsEnd : Task → Search → Type 0
IsEnd p s = (e : Event) → ¬ (IsEnabled p s e)

-- what a lane is told that it may be asked
abbrev pub Allows : Ready → Event → Type 0
Allows (Ready.Begin count) (Begin lane n) = n < count
Allows Ready.Turn (Turn lane) = Unit {0}
Allows Ready.Finish (Finish lane) = Unit {0}
Allows ready e = ⊥

-- exactly what may happen in a lane; a number of choices is at least 1
pub record Tells (p : Task) (s : Search) (lane : ℕ) (ready : Ready) : Type 0 where
  pub each : (e : Event) → lane_of e ≡ lane → IsEnabled p s e ↔ Allows ready e
  pub some : (count : ℕ) → ready ≡ Ready.Begin count → 1 ≤ count

-- ---- answers

-- how a change is answered
abbrev pub event_outcome : Change → Outcome
event_outcome (takes lane node) = Took node
event_outcome (branches lane acts) = Took (first_part acts)
event_outcome (moves lane) = Moved
event_outcome (ends lane) = Ended
event_outcome (works lane fact point) = Closed
event_outcome (sticks lane cause) = Closed
