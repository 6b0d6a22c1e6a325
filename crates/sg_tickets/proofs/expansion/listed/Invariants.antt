use Rattle.std.proofs.Common.{◌≡◌, ◌++◌, drop}
use Rattle.sg_tickets.specs.Expansion.{places_from, places_of}
use Rattle.sg_tickets.proofs.expansion.listed.Given as goal

-- what is listed, and what is left to list, is the whole
abbrev pub invariant-loop-place : goal.invariant-loop-place
invariant-loop-place l = l.list.items ++ places_from l.place (drop l.place l.tickets) ≡ places_of l.tickets
