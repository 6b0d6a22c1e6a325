use Rattle.std.proofs.Common.{take, map}
use Rattle.sg_cert.specs.Text.{text_of, ticket_row}
use Rattle.sg_cert_writer.specs.Writing.{Adds}
use Rattle.sg_cert_writer.proofs.writing.put_tickets.Given as goal

abbrev pub invariant-loop-ticket : goal.invariant-loop-ticket
invariant-loop-ticket g l = Adds (g.O.Sink.state l.initial.out) l.initial.block (g.O.Sink.state l.out) l.block (text_of (map ticket_row (take l.ticket-index l.tickets)))
