use Rattle.std.proofs.Common.{◌≡◌, ◌+◌, drop}
use Rattle.sg_bounds.specs.Checking.{ticket_stops}
use Rattle.sg_check.specs.Answering.{held_line}
use Rattle.sg_check.proofs.Firsts.{IsRest}
use Rattle.sg_check.proofs.tickets.test_plays.Given as goal

-- the line, and the tests that are left
abbrev pub invariant-loop-ticket : goal.invariant-loop-ticket
invariant-loop-ticket l = record {
  line : l.line ≡ held_line (3 + l.ticket-index);
  rest : IsRest l.game l.report (ticket_stops 3 l.ticket-items) (ticket_stops (3 + l.ticket-index) (drop l.ticket-index l.ticket-items));
}
