use Rattle.sg_cert_writer.proofs.Adding.{Writes-trans, Writes-as, Stops-early}
use Rattle.std.proofs.Common.{ap, List, [], ◌∷◌, ◌++◌, map, length}
use Rattle.std.specs.Prelude.{decimal, codes}
use Rattle.std.specs.Fmt.{signed_decimal}
use Rattle.sg_model.specs.declared.ticket.Ticket.{Ticket}
use Rattle.sg_cert.specs.Text.{spell, text_of, ticket_row}
use Rattle.sg_cert_writer.proofs.writing.put_claim.Goals as goal

pub returns-in-Ok : goal.returns-in-Ok
returns-in-Ok g c = Writes-as c.put_tickets.result _ _ c.args.block.now _ _ _ (ap (λ (ts : List Ticket). spell (codes "tickets" ∷ decimal (length c.args.claim.now.tickets) ∷ signed_decimal c.args.claim.now.total ∷ []) ++ text_of (map ticket_row ts)) c.tickets.ensures.value) (Writes-trans c.put_tickets.result _ _ _ c.args.block.now _ _ (spell (codes "tickets" ∷ decimal (length c.args.claim.now.tickets) ∷ signed_decimal c.args.claim.now.total ∷ [])) (text_of (map ticket_row c.tickets.result.now)) c.in-Ok.ensures c.put_tickets.ensures)

pub returns-in-Err : goal.returns-in-Err
returns-in-Err g c = Stops-early _ _ c.args.block.now (spell (codes "tickets" ∷ decimal (length c.args.claim.now.tickets) ∷ signed_decimal c.args.claim.now.total ∷ [])) (text_of (map ticket_row c.args.claim.now.tickets)) c.in-Err.ensures
