use Rattle.std.proofs.Common.{List}
use Rattle.std.specs.List.{flat_map}
use Rattle.sg_tree.specs.declared.report.Cap.{Cap}
use Rattle.sg_cert.specs.Text.{text_of, cap_rows}
use Rattle.sg_cert_writer.proofs.Adding.{folds_more, folds_stop, folds_end, folds_start}
use Rattle.sg_cert_writer.proofs.LineTexts.{folds_blocks}
use Rattle.sg_cert_writer.proofs.writing.put_caps.Goals as goal

pub loop-cap-init : goal.loop-cap-init
loop-cap-init g c = folds_start (λ (xs : List Cap). text_of (flat_map cap_rows xs)) (λ (x : Cap). text_of (cap_rows x)) (folds_blocks cap_rows) c.args.caps.now _ c.args.block.now

pub loop-cap-preserved : goal.loop-cap-preserved
loop-cap-preserved g c = folds_more (λ (xs : List Cap). text_of (flat_map cap_rows xs)) (λ (x : Cap). text_of (cap_rows x)) (folds_blocks cap_rows) c.args.caps.now c.loop-cap.cap-index c.cap-item.result c.cap-item.result c.loop-cap-test.true c.cap-item.is _ _ _ _ _ _ c.loop-cap.invariant c.in-Ok.ensures

pub returns-in-Err : goal.returns-in-Err
returns-in-Err g c = folds_stop (λ (xs : List Cap). text_of (flat_map cap_rows xs)) (λ (x : Cap). text_of (cap_rows x)) (folds_blocks cap_rows) c.args.caps.now c.loop-cap.cap-index c.cap-item.result c.cap-item.result c.loop-cap-test.true c.cap-item.is _ _ _ _ _ c.loop-cap.invariant c.in-Err.ensures

pub returns : goal.returns
returns g c = folds_end (λ (xs : List Cap). text_of (flat_map cap_rows xs)) c.args.caps.now c.loop-cap.cap-index c.loop-cap-test.false _ _ _ _ c.loop-cap.invariant
