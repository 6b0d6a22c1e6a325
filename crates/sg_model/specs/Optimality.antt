-- Optimal commitments and upper bounds, against every commitment, whatever the size of its numbers.
use Rattle.std.specs.Prelude.{List, ℤ, pos, ◌*ℤ◌, ◌≤ℤ◌}
use Rattle.sg_model.specs.declared.ticket.Ticket.{Ticket}
use Rattle.sg_model.specs.Games.{Game, prior_total}
use Rattle.sg_model.specs.Commitments.{IsCommitment, weight_total, worth}

-- no commitment has a greater value
abbrev pub IsOptimal : Game → List Ticket → Type 0
IsOptimal g k = (other : List Ticket) → IsCommitment g other → (worth g other *ℤ weight_total k) ≤ℤ (worth g k *ℤ weight_total other)

-- no commitment has a value above num / den
pub record IsUpperBound (g : Game) (num den : ℤ) : Type 0 where
  pub positive : pos 1 ≤ℤ den
  pub bounds : (k : List Ticket) → IsCommitment g k → (worth g k *ℤ den) ≤ℤ ((num *ℤ weight_total k) *ℤ prior_total g)
