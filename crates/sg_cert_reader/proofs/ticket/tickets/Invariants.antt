use Rattle.std.proofs.Common.{◌≡◌, ◌-◌, [], true, length}
use Rattle.sg_cert.specs.Reading.{repeat, ticket_at}
use Rattle.sg_cert.proofs.Rising.{rises}
use Rattle.sg_cert_reader.proofs.ticket.tickets.Given as goal

abbrev pub invariant-loop : goal.invariant-loop
invariant-loop l = record {
  read : repeat ticket_at l.tickets (l.plays - l.counter) l.lines ≡ repeat ticket_at [] l.plays l.fn.lines;
  count : length l.tickets ≡ l.counter;
  rules : rises l.tickets ≡ true;
}
