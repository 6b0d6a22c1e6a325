use Rattle.std.proofs.Common.{List, map}
use Rattle.sg_model.specs.declared.ticket.Ticket.{Ticket}
use Rattle.sg_cert.specs.Text.{spell, text_of, ticket_row}
use Rattle.sg_cert_writer.proofs.Adding.{folds_more, folds_stop, folds_end, folds_start}
use Rattle.sg_cert_writer.proofs.LineTexts.{folds_rows}
use Rattle.sg_cert_writer.proofs.writing.put_tickets.Goals as goal

pub loop-ticket-init : goal.loop-ticket-init
loop-ticket-init g c = folds_start (λ (xs : List Ticket). text_of (map ticket_row xs)) (λ (x : Ticket). spell (ticket_row x)) (folds_rows ticket_row) c.args.tickets.now _ c.args.block.now

pub loop-ticket-preserved : goal.loop-ticket-preserved
loop-ticket-preserved g c = folds_more (λ (xs : List Ticket). text_of (map ticket_row xs)) (λ (x : Ticket). spell (ticket_row x)) (folds_rows ticket_row) c.args.tickets.now c.loop-ticket.ticket-index c.ticket-item.result c.ticket-item.result c.loop-ticket-test.true c.ticket-item.is _ _ _ _ _ _ c.loop-ticket.invariant c.in-Ok.ensures

pub returns-in-Err : goal.returns-in-Err
returns-in-Err g c = folds_stop (λ (xs : List Ticket). text_of (map ticket_row xs)) (λ (x : Ticket). spell (ticket_row x)) (folds_rows ticket_row) c.args.tickets.now c.loop-ticket.ticket-index c.ticket-item.result c.ticket-item.result c.loop-ticket-test.true c.ticket-item.is _ _ _ _ _ c.loop-ticket.invariant c.in-Err.ensures

pub returns : goal.returns
returns g c = folds_end (λ (xs : List Ticket). text_of (map ticket_row xs)) c.args.tickets.now c.loop-ticket.ticket-index c.loop-ticket-test.false _ _ _ _ c.loop-ticket.invariant
