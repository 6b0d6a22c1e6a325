use Rattle.std.proofs.Common.{◌∙◌, map}
use Rattle.sg_eraser.specs.Nonzero.{nonzero_from}
use Rattle.sg_eraser.specs.TableValues.{meant_entry}
use Rattle.sg_eraser.proofs.Written.{all-items, next-item}
use Rattle.sg_eraser.proofs.sparse.entries.Goals as goal

pub loop-column-preserved : goal.loop-column-preserved
loop-column-preserved c =
    next-item (λ d. nonzero_from 0 (map (λ row. meant_entry c.args.game.now c.args.fix.now row d) c.args.rows.now)) c.args.columns.now c.loop-column.column-index _ c.loop-column.all c.push.new.self c.in_ok-entries_of.field-0 c.loop-column-test.true c.loop-column.invariant c.in_ok-entries_of.ensures c.in_ok-push.ensures.ok

pub returns : goal.returns
returns c =
    c.loop-column.invariant
    ∙ all-items (λ d. nonzero_from 0 (map (λ row. meant_entry c.args.game.now c.args.fix.now row d) c.args.rows.now)) c.args.columns.now c.loop-column.column-index c.loop-column-test.false c.loop-column.auto.column-index-end
