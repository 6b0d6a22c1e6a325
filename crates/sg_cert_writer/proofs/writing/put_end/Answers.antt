use Rattle.sg_cert_writer.proofs.Adding.{Writes-trans, Stops-early}
use Rattle.std.proofs.Common.{[], ◌∷◌}
use Rattle.std.specs.Prelude.{codes}
use Rattle.sg_cert.specs.Text.{spell, verdict_row}
use Rattle.sg_cert_writer.proofs.writing.put_end.Goals as goal

pub returns-in-Ok : goal.returns-in-Ok
returns-in-Ok g c = Writes-trans c.put_line.result _ _ _ c.args.block.now _ _ (spell (verdict_row c.args.report.now.ending)) (spell (codes "end" ∷ [])) c.in-Ok.ensures c.put_line.ensures

pub returns-in-Err : goal.returns-in-Err
returns-in-Err g c = Stops-early _ _ c.args.block.now (spell (verdict_row c.args.report.now.ending)) (spell (codes "end" ∷ [])) c.in-Err.ensures
