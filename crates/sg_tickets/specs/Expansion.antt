-- The tickets of a commitment one by one: of each ticket the place of its play, as often as its weight.
use Rattle.std.specs.Prelude.{ℕ, ◌+◌, List, [], ◌∷◌, ◌++◌, replicate, slice_index_or, ℤ, pos, ◌<ℤ◌, unsigned_abs}
use Rattle.sg_model.specs.declared.ticket.Ticket.{Ticket}
use Rattle.sg_commit.specs.Joining.{no_ticket}

-- the places of these tickets, of which the first stands at place i: each as often as its weight, in rising order
abbrev pub places_from : ℕ → List Ticket → List ℕ
places_from i [] = []
places_from i (x ∷ xs) = replicate (unsigned_abs x.weight) i ++ places_from (i + 1) xs

-- the places of all tickets, counted from 0
abbrev pub places_of : List Ticket → List ℕ
places_of k = places_from 0 k

-- more than a million
abbrev pub IsLongTotal : ℤ → Type 0
IsLongTotal total = pos 1000000 <ℤ total

-- the ticket at a place counted from 0, and one of no choice and no weight where there is none
abbrev pub ticket_at : List Ticket → ℕ → Ticket
ticket_at k i = slice_index_or k i no_ticket

-- what is played on a day that has the ticket at this place
abbrev pub play_at : List Ticket → ℕ → List ℕ
play_at k i = (ticket_at k i).play.code
