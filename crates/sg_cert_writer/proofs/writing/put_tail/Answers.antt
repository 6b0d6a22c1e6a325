use Rattle.sg_cert_writer.proofs.Adding.{Writes-trans, Writes-as, Stops-early, Stops-as}
use Rattle.std.proofs.Common.{[], ◌∷◌, ◌++◌}
use Rattle.std.specs.Prelude.{codes}
use Rattle.sg_cert.specs.Text.{spell, fraction_row, verdict_row}
use Rattle.sg_cert_writer.proofs.LineTexts.{tail_text}
use Rattle.sg_cert_writer.proofs.writing.put_tail.Goals as goal

pub returns-in-Ok : goal.returns-in-Ok
returns-in-Ok g c = Writes-as c.put_end.result _ _ c.args.block.now _ _ _ (tail_text c.args.report.now) (Writes-trans c.put_end.result _ _ _ c.args.block.now _ _ (spell (fraction_row (codes "upper") c.args.report.now.upper)) (spell (verdict_row c.args.report.now.ending) ++ spell (codes "end" ∷ [])) c.in-Ok.ensures c.put_end.ensures)

pub returns-in-Err : goal.returns-in-Err
returns-in-Err g c = Stops-as _ _ c.args.block.now _ _ (tail_text c.args.report.now) (Stops-early _ _ c.args.block.now (spell (fraction_row (codes "upper") c.args.report.now.upper)) (spell (verdict_row c.args.report.now.ending) ++ spell (codes "end" ∷ [])) c.in-Err.ensures)
