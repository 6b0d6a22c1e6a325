use Rattle.sg_cert_writer.proofs.Adding.{Writes-trans, Writes-as, Stops-early, Stops-as}
use Rattle.std.proofs.Common.{ap, ◌∙◌, List, ◌++◌}
use Rattle.std.specs.List.{flat_map}
use Rattle.sg_tree.specs.declared.report.Cap.{Cap}
use Rattle.sg_cert.specs.Text.{text_of, cap_rows, node_rows, tail_rows}
use Rattle.sg_cert_writer.proofs.LineTexts.{report_split}
use Rattle.sg_cert_writer.proofs.writing.put_caps_tail.Goals as goal

pub returns-in-Ok : goal.returns-in-Ok
returns-in-Ok g c = Writes-as c.put_tree_tail.result _ _ c.args.block.now _ _ _ (ap (λ (cs : List Cap). text_of (flat_map cap_rows cs) ++ text_of (node_rows c.args.report.now.tree ++ tail_rows c.args.report.now)) c.as_slice.ensures ∙ report_split (flat_map cap_rows c.args.report.now.caps) (node_rows c.args.report.now.tree ++ tail_rows c.args.report.now)) (Writes-trans c.put_tree_tail.result _ _ _ c.args.block.now _ _ (text_of (flat_map cap_rows c.as_slice.result.now)) (text_of (node_rows c.args.report.now.tree ++ tail_rows c.args.report.now)) c.in-Ok.ensures c.put_tree_tail.ensures)

pub returns-in-Err : goal.returns-in-Err
returns-in-Err g c = Stops-as _ _ c.args.block.now _ _ (ap (λ (cs : List Cap). text_of (flat_map cap_rows cs) ++ text_of (node_rows c.args.report.now.tree ++ tail_rows c.args.report.now)) c.as_slice.ensures ∙ report_split (flat_map cap_rows c.args.report.now.caps) (node_rows c.args.report.now.tree ++ tail_rows c.args.report.now)) (Stops-early _ _ c.args.block.now (text_of (flat_map cap_rows c.as_slice.result.now)) (text_of (node_rows c.args.report.now.tree ++ tail_rows c.args.report.now)) c.in-Err.ensures)
