-- The caps of the moment are allowed.
use Rattle.std.specs.Prelude.{◌≡◌, ◌↔◌, ℕ, ◌≤◌, List, length, All, ℤ, ◌≤ℤ◌}
use Rattle.sg_model.specs.declared.ticket.Ticket.{Ticket}
use Rattle.sg_model.specs.Commitments.{IsCommitment}
use Rattle.sg_model.specs.Payoffs.{IsPeopled}
use Rattle.sg_model.specs.Games.{Game, action_count}
use Rattle.sg_bounds.specs.Caps.{AreCaps, IsUnderCap}
use Rattle.sg_search.specs.Searches.{Search}
use Rattle.sg_search.specs.Bounding.{cap_at, cap_facts, caps_of}
use Rattle.sg_search.specs.Results.{IsResult}
use Rattle.sg_search.specs.TreeLaws.{AreFacts}

-- where the facts of the worked nodes hold, the caps that are read off them are allowed: plain, or proved by one fact for
-- each action of their type
abbrev pub CapsHold : Type 0
CapsHold = (g : Game) → IsPeopled g → (s : Search) → AreFacts g s → AreCaps g (caps_of g s)

-- once all nodes of a type are worked, its cap is the least whole number that none of their facts exceeds
abbrev pub CapIsLeast : Type 0
CapIsLeast = (g : Game) → IsPeopled g → (s : Search) → All (IsResult g) s.worked → (k : List Ticket) → IsCommitment g k → (l : ℕ) → 2 ≤ l → l ≤ length g.types
    → length (cap_facts g s l) ≡ action_count g l → (top : ℤ) → All (IsUnderCap g l top) (cap_facts g s l) ↔ ((cap_at g s l).v ≤ℤ top)
