-- Commitments as they are kept: tickets in rising order of their plays, with weights in lowest terms and their total.
use Rattle.std.specs.Prelude.{◌≡◌, ◌≢◌, ℕ, Bool, true, ◌&&◌, List, [], ◌∷◌, ℤ, pos, ◌≤ℤ◌, All, unsigned_abs}
use Rattle.std.specs.Int.{◌∣◌}
use Rattle.sg_model.specs.declared.ticket.Ticket.{Ticket}
use Rattle.sg_model.specs.Games.{Game}
use Rattle.sg_model.specs.Orders.{is_before}
use Rattle.sg_model.specs.Plays.{IsLegal}
use Rattle.sg_model.specs.Commitments.{weight_total, AreLowest}

-- tickets, and the sum of their weights
pub record Committed : Type 0 where
  pub tickets : List Ticket
  pub total : ℤ

-- whether the play of each ticket comes before that of the next
abbrev pub is_rising : List Ticket → Bool
is_rising [] = true
is_rising (x ∷ []) = true
is_rising (x ∷ y ∷ ys) = is_before x.play.code y.play.code && is_rising (y ∷ ys)

-- at least one ticket, plays in strictly rising order, weights of at least 1 in lowest terms, and their sum
pub record IsCommitted (c : Committed) : Type 0 where
  pub some : c.tickets ≢ []
  pub positive : All (λ (x : Ticket). pos 1 ≤ℤ x.weight) c.tickets
  pub rising : is_rising c.tickets ≡ true
  pub lowest : AreLowest c.tickets
  pub sum : c.total ≡ weight_total c.tickets
