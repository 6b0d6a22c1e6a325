use Rattle.sg_cert_writer.proofs.Adding.{Writes-trans, Writes-as, Stops-early, Stops-as}
use Rattle.std.proofs.Common.{◌++◌}
use Rattle.std.specs.List.{flat_map}
use Rattle.sg_cert.specs.Text.{text_of, cap_rows, node_rows, head_rows, tail_rows}
use Rattle.sg_cert_writer.proofs.LineTexts.{report_split}
use Rattle.sg_cert_writer.proofs.writing.put_report.Goals as goal

pub returns-in-Ok : goal.returns-in-Ok
returns-in-Ok g c = Writes-as c.put_caps_tail.result _ _ c.args.block.now _ _ _ (report_split (head_rows c.args.report.now) (flat_map cap_rows c.args.report.now.caps ++ (node_rows c.args.report.now.tree ++ tail_rows c.args.report.now))) (Writes-trans c.put_caps_tail.result _ _ _ c.args.block.now _ _ (text_of (head_rows c.args.report.now)) (text_of (flat_map cap_rows c.args.report.now.caps ++ (node_rows c.args.report.now.tree ++ tail_rows c.args.report.now))) c.in-Ok.ensures c.put_caps_tail.ensures)

pub returns-in-Err : goal.returns-in-Err
returns-in-Err g c = Stops-as _ _ c.args.block.now _ _ (report_split (head_rows c.args.report.now) (flat_map cap_rows c.args.report.now.caps ++ (node_rows c.args.report.now.tree ++ tail_rows c.args.report.now))) (Stops-early _ _ c.args.block.now (text_of (head_rows c.args.report.now)) (text_of (flat_map cap_rows c.args.report.now.caps ++ (node_rows c.args.report.now.tree ++ tail_rows c.args.report.now))) c.in-Err.ensures)
