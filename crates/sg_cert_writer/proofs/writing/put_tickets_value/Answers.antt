use Rattle.sg_cert_writer.proofs.Adding.{Writes-trans, Stops-early}
use Rattle.std.specs.Prelude.{codes}
use Rattle.sg_cert.specs.Text.{spell, text_of, fraction_row, claim_rows}
use Rattle.sg_cert_writer.proofs.writing.put_tickets_value.Goals as goal

pub returns-in-Ok : goal.returns-in-Ok
returns-in-Ok g c = Writes-trans c.put_fraction.result _ _ _ c.args.block.now _ _ (text_of (claim_rows c.args.report.now.tickets)) (spell (fraction_row (codes "value") c.args.report.now.value)) c.in-Ok.ensures c.put_fraction.ensures

pub returns-in-Err : goal.returns-in-Err
returns-in-Err g c = Stops-early _ _ c.args.block.now (text_of (claim_rows c.args.report.now.tickets)) (spell (fraction_row (codes "value") c.args.report.now.value)) c.in-Err.ensures
