-- What facts and caps say of commitments.
use Rattle.std.specs.Prelude.{◌≡◌, ℕ, ◌≤◌, List, length, ℤ, pos, ◌*ℤ◌, ◌≤ℤ◌}
use Rattle.sg_model.specs.declared.ticket.Ticket.{Ticket}
use Rattle.sg_model.specs.Games.{Game}
use Rattle.sg_model.specs.Payoffs.{IsPeopled}
use Rattle.sg_model.specs.Commitments.{IsCommitment, take_of, weight_total}
use Rattle.sg_tree.specs.declared.fact.Fact.{Fact}
use Rattle.sg_tree.specs.declared.fact.Mark.{Mark}
use Rattle.sg_tree.specs.declared.fact.Line.{Line}
use Rattle.sg_tree.specs.declared.fix.Fix.{Fix}
use Rattle.sg_bounds.specs.Regions.{IsFix, IsInRegion}
use Rattle.sg_bounds.specs.Facts.{HoldsFor, IsCoverFact, IsPlaysFact, mu_of, rho_of, shifted_sum}
use Rattle.sg_bounds.specs.Caps.{IsAllowedBy}

-- a fact of the coverage table is a fact over plays, whose marks are its lines of types and actions
abbrev pub CoverIsPlays : Type 0
CoverIsPlays = (g : Game) (fix : Fix) → IsFix g fix → (rho mu : ℤ) (lines : List Line) → IsCoverFact g fix rho mu lines
    → (marks : List Mark) × IsPlaysFact g fix rho mu marks

-- weak duality: a fact that holds for a fix bounds each commitment of its region
abbrev pub FactBounds : Type 0
FactBounds = (g : Game) (fix : Fix) → IsFix g fix → (f : Fact) → HoldsFor g fix f → (k : List Ticket) → IsCommitment g k → IsInRegion g fix k
    → (rho_of f *ℤ shifted_sum g fix k) ≤ℤ (mu_of f *ℤ weight_total k)

-- where mu is 0 there is no commitment in the region
abbrev pub EmptyRegion : Type 0
EmptyRegion = (g : Game) → IsPeopled g → (fix : Fix) → IsFix g fix → (f : Fact) → HoldsFor g fix f → mu_of f ≡ pos 0
    → (k : List Ticket) → IsCommitment g k → IsInRegion g fix k → ⊥

-- no commitment takes more of a type than an allowed cap for each ticket
abbrev pub CapBounds : Type 0
CapBounds = (g : Game) → IsPeopled g → (l : ℕ) → 1 ≤ l → l ≤ length g.types → (v : ℤ) (proof : List Fact) → IsAllowedBy g l v proof
    → (k : List Ticket) → IsCommitment g k → take_of g k l ≤ℤ (v *ℤ weight_total k)
