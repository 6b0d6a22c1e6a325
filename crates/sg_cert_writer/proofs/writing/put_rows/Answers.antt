use Rattle.std.proofs.Common.{List, map, refl, get_or, pos}
use Rattle.sg_tree.specs.declared.fact.Line.{Line}
use Rattle.sg_cert.specs.Text.{spell, text_of, line_row}
use Rattle.sg_cert_writer.proofs.Adding.{folds_more, folds_stop, folds_end, folds_start}
use Rattle.sg_cert_writer.proofs.LineTexts.{folds_rows}
use Rattle.sg_cert_writer.proofs.writing.put_rows.Goals as goal

pub loop-row-init : goal.loop-row-init
loop-row-init g c = folds_start (λ (xs : List Line). text_of (map line_row xs)) (λ (x : Line). spell (line_row x)) (folds_rows line_row) c.args.rows.now _ c.args.block.now

pub loop-row-preserved : goal.loop-row-preserved
loop-row-preserved g c = folds_more (λ (xs : List Line). text_of (map line_row xs)) (λ (x : Line). spell (line_row x)) (folds_rows line_row) c.args.rows.now c.loop-row.row-index (get_or c.args.rows.now c.loop-row.row-index (record { row = 0; v = pos 0 })) (record { row = 0; v = pos 0 }) c.loop-row-test.true refl _ _ _ _ _ _ c.loop-row.invariant c.in-Ok.ensures

pub returns-in-Err : goal.returns-in-Err
returns-in-Err g c = folds_stop (λ (xs : List Line). text_of (map line_row xs)) (λ (x : Line). spell (line_row x)) (folds_rows line_row) c.args.rows.now c.loop-row.row-index (get_or c.args.rows.now c.loop-row.row-index (record { row = 0; v = pos 0 })) (record { row = 0; v = pos 0 }) c.loop-row-test.true refl _ _ _ _ _ c.loop-row.invariant c.in-Err.ensures

pub returns : goal.returns
returns g c = folds_end (λ (xs : List Line). text_of (map line_row xs)) c.args.rows.now c.loop-row.row-index c.loop-row-test.false _ _ _ _ c.loop-row.invariant
