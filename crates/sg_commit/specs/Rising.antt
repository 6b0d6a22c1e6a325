-- Tickets in rising order with a total that is said of them.
use Rattle.std.specs.Prelude.{◌≡◌, List, ℤ}
use Rattle.sg_model.specs.declared.ticket.Ticket.{Ticket}
use Rattle.sg_model.specs.Commitments.{weight_total, AreLowest}

-- the total is the sum of the weights, which are in lowest terms
pub record AreShares (k : List Ticket) (total : ℤ) : Type 0 where
  pub sum : total ≡ weight_total k
  pub lowest : AreLowest k
