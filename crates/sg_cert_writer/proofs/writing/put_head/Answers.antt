use Rattle.sg_cert_writer.proofs.Adding.{Writes-trans, Writes-as, Stops-early, Stops-as}
use Rattle.std.proofs.Common.{[], ◌∷◌, ◌++◌}
use Rattle.std.specs.Prelude.{codes}
use Rattle.sg_cert.specs.Text.{spell, text_of, fraction_row, claim_rows}
use Rattle.sg_cert_writer.proofs.LineTexts.{head_text}
use Rattle.sg_cert_writer.proofs.writing.put_head.Goals as goal

pub returns-in-Ok : goal.returns-in-Ok
returns-in-Ok g c = Writes-as c.put_tickets_value.result _ _ c.args.block.now _ _ _ (head_text c.args.report.now) (Writes-trans c.put_tickets_value.result _ _ _ c.args.block.now _ _ (spell (codes "patrol-report" ∷ codes "1" ∷ [])) (text_of (claim_rows c.args.report.now.tickets) ++ spell (fraction_row (codes "value") c.args.report.now.value)) c.in-Ok.ensures c.put_tickets_value.ensures)

pub returns-in-Err : goal.returns-in-Err
returns-in-Err g c = Stops-as _ _ c.args.block.now _ _ (head_text c.args.report.now) (Stops-early _ _ c.args.block.now (spell (codes "patrol-report" ∷ codes "1" ∷ [])) (text_of (claim_rows c.args.report.now.tickets) ++ spell (fraction_row (codes "value") c.args.report.now.value)) c.in-Err.ensures)
