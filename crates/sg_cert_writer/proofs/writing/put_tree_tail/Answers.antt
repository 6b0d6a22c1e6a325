use Rattle.sg_cert_writer.proofs.Adding.{Writes-trans, Writes-as, Stops-early, Stops-as}
use Rattle.sg_cert.specs.Text.{text_of, node_rows, tail_rows}
use Rattle.sg_cert_writer.proofs.LineTexts.{report_split}
use Rattle.sg_cert_writer.proofs.writing.put_tree_tail.Goals as goal

pub returns-in-Ok : goal.returns-in-Ok
returns-in-Ok g c = Writes-as c.put_tail.result _ _ c.args.block.now _ _ _ (report_split (node_rows c.args.report.now.tree) (tail_rows c.args.report.now)) (Writes-trans c.put_tail.result _ _ _ c.args.block.now _ _ (text_of (node_rows c.args.report.now.tree)) (text_of (tail_rows c.args.report.now)) c.in-Ok.ensures c.put_tail.ensures)

pub returns-in-Err : goal.returns-in-Err
returns-in-Err g c = Stops-as _ _ c.args.block.now _ _ (report_split (node_rows c.args.report.now.tree) (tail_rows c.args.report.now)) (Stops-early _ _ c.args.block.now (text_of (node_rows c.args.report.now.tree)) (text_of (tail_rows c.args.report.now)) c.in-Err.ensures)
