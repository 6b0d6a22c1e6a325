use Rattle.sg_cert_writer.proofs.Adding.{Writes-trans, Stops-early}
use Rattle.sg_cert.specs.Text.{spell, text_of, base_rows, split_row}
use Rattle.sg_cert_writer.proofs.writing.put_split.Goals as goal

pub returns-in-Ok : goal.returns-in-Ok
returns-in-Ok g c = Writes-trans c.put_base.result _ _ _ c.args.block.now _ _ (spell (split_row c.args.l c.args.count)) (text_of (base_rows c.args.base.now)) c.in-Ok.ensures c.put_base.ensures

pub returns-in-Err : goal.returns-in-Err
returns-in-Err g c = Stops-early _ _ c.args.block.now (spell (split_row c.args.l c.args.count)) (text_of (base_rows c.args.base.now)) c.in-Err.ensures
