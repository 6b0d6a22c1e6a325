-- What the list of places is, and what holds of every order of it.
use Rattle.std.specs.Prelude.{◌≡◌, ℕ, ◌==◌, List, length, ℤ, pos, ◌≤ℤ◌, All, IsPermutation, count_by}
use Rattle.std.specs.List.Sorted.{IsNonDecreasing}
use Rattle.sg_model.specs.declared.ticket.Ticket.{Ticket}
use Rattle.sg_model.specs.Games.{Game}
use Rattle.sg_model.specs.Plays.{IsLegal, covers}
use Rattle.sg_model.specs.Commitments.{cover_count, weight_total, AreLegal}
use Rattle.sg_tickets.specs.Expansion.{places_of, play_at, ticket_at}

-- weights of at least 1
abbrev pub ArePositive : List Ticket → Type 0
ArePositive k = All (λ (x : Ticket). pos 1 ≤ℤ x.weight) k

-- each ticket's place as often as its weight and no other number, in rising order; so there are as many as the weights sum to
pub record ArePlaces (k : List Ticket) (list : List ℕ) : Type 0 where
  pub often : (i : ℕ) → pos (count_by (λ j. j == i) list) ≡ (ticket_at k i).weight
  pub rising : IsNonDecreasing list
  pub as_many : pos (length list) ≡ weight_total k

-- so it is with the list of places
abbrev pub PlacesAreListed : Type 0
PlacesAreListed = (k : List Ticket) → ArePositive k → ArePlaces k (places_of k)

-- the days, each the place of a ticket, on which target t is covered
abbrev pub covered_days : Game → List Ticket → List ℕ → ℕ → ℕ
covered_days g k days t = count_by (λ i. covers g (play_at k i) t) days

-- the days are as many as the tickets, each day is a legal play, and each target is covered on as many days as tickets cover it
pub record CoverAsTickets (g : Game) (k : List Ticket) (days : List ℕ) : Type 0 where
  pub as_many : pos (length days) ≡ weight_total k
  pub legal : All (λ i. IsLegal g (play_at k i)) days
  pub covered : (t : ℕ) → pos (covered_days g k days t) ≡ cover_count g k t

-- so it is in whatever order the places stand
abbrev pub DaysCoverAsTickets : Type 0
DaysCoverAsTickets = (g : Game) (k : List Ticket) (days : List ℕ) → ArePositive k → AreLegal g k → IsPermutation (places_of k) days → CoverAsTickets g k days
