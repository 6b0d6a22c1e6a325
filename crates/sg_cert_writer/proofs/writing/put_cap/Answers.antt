use Rattle.sg_cert_writer.proofs.Adding.{Writes-trans, Writes-as, Stops-early}
use Rattle.std.proofs.Common.{ap, List, ◌++◌}
use Rattle.std.specs.List.{flat_map}
use Rattle.sg_tree.specs.declared.fact.Fact.{Fact}
use Rattle.sg_cert.specs.Text.{spell, text_of, fact_rows, cap_row}
use Rattle.sg_cert_writer.proofs.writing.put_cap.Goals as goal

pub returns-in-Ok : goal.returns-in-Ok
returns-in-Ok g c = Writes-as c.put_facts.result _ _ c.args.block.now _ _ _ (ap (λ (fs : List Fact). spell (cap_row c.args.cap.now) ++ text_of (flat_map fact_rows fs)) c.as_slice.ensures) (Writes-trans c.put_facts.result _ _ _ c.args.block.now _ _ (spell (cap_row c.args.cap.now)) (text_of (flat_map fact_rows c.as_slice.result.now)) c.in-Ok.ensures c.put_facts.ensures)

pub returns-in-Err : goal.returns-in-Err
returns-in-Err g c = Stops-early _ _ c.args.block.now (spell (cap_row c.args.cap.now)) (text_of (flat_map fact_rows c.args.cap.now.proof)) c.in-Err.ensures
