-- Which commitments a node of the tree speaks of: those to which the fixed types answer by the fixed actions.
use Rattle.std.specs.Prelude.{◌≡◌, ◌≢◌, ◌⊎◌, ℕ, ◌+◌, ◌-◌, ◌<◌, ◌≤◌, List, [], ◌∷◌, length, IsTrue, All, slice_index}
use Rattle.std.specs.List.{zip}
use Rattle.sg_model.specs.Sums.{numbers_from}
use Rattle.sg_model.specs.Games.{Game, action_count}
use Rattle.sg_model.specs.declared.ticket.Ticket.{Ticket}
use Rattle.sg_model.specs.Commitments.{is_best}
use Rattle.sg_tree.specs.declared.fix.Fix.{Fix}

-- the fixed types with their actions
abbrev pub fixed : Fix → List (ℕ × ℕ)
fixed fix = zip (numbers_from fix.first (length fix.acts)) fix.acts

-- the action that type l is fixed to
abbrev pub act_of : Fix → ℕ → ℕ
act_of fix l = slice_index fix.acts (l - fix.first)

-- the fix of types 1 to n, in their order
abbrev pub prefix : List ℕ → Fix
prefix acts = record { first = 1; acts = acts }

-- the fix of one type
abbrev pub alone : ℕ → ℕ → Fix
alone l a = record { first = l; acts = a ∷ [] }

-- at least one type is fixed, and the types and their actions are those of the game
pub record IsFix (g : Game) (fix : Fix) : Type 0 where
  pub some : fix.acts ≢ []
  pub from_one : 1 ≤ fix.first
  pub in_range : fix.first + length fix.acts ≤ length g.types + 1
  pub acts : All (λ (p : ℕ × ℕ). (1 ≤ p.1) × (p.1 ≤ action_count g p.0)) (fixed fix)

-- a node of the search: the first types are fixed, or one later type alone
pub record IsNode (g : Game) (fix : Fix) : Type 0 where
  pub is_fix : IsFix g fix
  pub form : (fix.first ≡ 1) ⊎ ((2 ≤ fix.first) × (length fix.acts ≡ 1))

-- each fixed action is best for its type
abbrev pub IsInRegion : Game → Fix → List Ticket → Type 0
IsInRegion g fix k = (l : ℕ) → fix.first ≤ l → l < fix.first + length fix.acts → IsTrue (is_best g k l (act_of fix l))
