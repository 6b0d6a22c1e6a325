-- The order of the days: the places of the tickets, shuffled by a seed.
use Rattle.std.specs.Prelude.{ℕ, List}
use Rattle.rand.specs.Shuffle.{shuffled}
use Rattle.sg_model.specs.declared.ticket.Ticket.{Ticket}
use Rattle.sg_seed.specs.Seeds.{seeded}
use Rattle.sg_tickets.specs.Expansion.{places_of}

-- the place of each day's ticket: `rand` shuffles the list of places
abbrev pub days_of : List Ticket → ℕ → List ℕ
days_of k seed = (shuffled (places_of k) 0 (seeded seed)).0
