use Rattle.std.proofs.Common.{List, map, refl, get_or, pos}
use Rattle.sg_tree.specs.declared.fact.Mark.{Mark}
use Rattle.sg_cert.specs.Text.{spell, text_of, mark_row}
use Rattle.sg_cert_writer.proofs.Adding.{folds_more, folds_stop, folds_end, folds_start}
use Rattle.sg_cert_writer.proofs.LineTexts.{folds_rows}
use Rattle.sg_cert_writer.proofs.writing.put_marks.Goals as goal

pub loop-mark-init : goal.loop-mark-init
loop-mark-init g c = folds_start (λ (xs : List Mark). text_of (map mark_row xs)) (λ (x : Mark). spell (mark_row x)) (folds_rows mark_row) c.args.marks.now _ c.args.block.now

pub loop-mark-preserved : goal.loop-mark-preserved
loop-mark-preserved g c = folds_more (λ (xs : List Mark). text_of (map mark_row xs)) (λ (x : Mark). spell (mark_row x)) (folds_rows mark_row) c.args.marks.now c.loop-mark.mark-index (get_or c.args.marks.now c.loop-mark.mark-index (record { l = 0; a = 0; v = pos 0 })) (record { l = 0; a = 0; v = pos 0 }) c.loop-mark-test.true refl _ _ _ _ _ _ c.loop-mark.invariant c.in-Ok.ensures

pub returns-in-Err : goal.returns-in-Err
returns-in-Err g c = folds_stop (λ (xs : List Mark). text_of (map mark_row xs)) (λ (x : Mark). spell (mark_row x)) (folds_rows mark_row) c.args.marks.now c.loop-mark.mark-index (get_or c.args.marks.now c.loop-mark.mark-index (record { l = 0; a = 0; v = pos 0 })) (record { l = 0; a = 0; v = pos 0 }) c.loop-mark-test.true refl _ _ _ _ _ c.loop-mark.invariant c.in-Err.ensures

pub returns : goal.returns
returns g c = folds_end (λ (xs : List Mark). text_of (map mark_row xs)) c.args.marks.now c.loop-mark.mark-index c.loop-mark-test.false _ _ _ _ c.loop-mark.invariant
