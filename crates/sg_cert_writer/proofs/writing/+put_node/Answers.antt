use Rattle.sg_cert_writer.proofs.Adding.{Stops-as}
use Rattle.sg_cert_writer.proofs.Splits.{split_start, split_more, split_stop, split_end, split_early, front_count, Adds-as}
use Rattle.sg_cert_writer.proofs.writing.+put_node.Goals as goal

pub returns-in-Err : goal.returns-in-Err
returns-in-Err g t c =
    split_early c.args.tree.now c.in-Split.l c.in-Split.base _ _ c.args.block.now c.in-Split.parts c.in-Split.is
    (Stops-as _ _ c.args.block.now _ _ (front_count c.in-Split.l c.len.result c.in-Split.base c.in-Split.parts c.len.ensures) c.in-Err.ensures)

pub loop-part-init : goal.loop-part-init
loop-part-init g t c =
    split_start c.args.tree.now c.in-Split.l c.in-Split.base _ _ c.args.block.now _ c.in-Split.parts _ c.in-Split.is c.as_slice-part-items.ensures
    (Adds-as _ _ c.args.block.now _ _ _ (front_count c.in-Split.l c.len.result c.in-Split.base c.in-Split.parts c.len.ensures) c.in-Ok.ensures)

pub returns-in-Err-put_node : goal.returns-in-Err-put_node
returns-in-Err-put_node g t c = split_stop c.args.tree.now _ _ _ c.args.block.now _ _ c.loop-part.part-index c.part-item.result c.loop-part-test.true c.part-item.is c.loop-part.invariant c.in-Err-put_node.ensures

pub loop-part-preserved : goal.loop-part-preserved
loop-part-preserved g t c = split_more c.args.tree.now _ _ _ c.args.block.now _ _ _ c.loop-part.part-index c.part-item.result c.loop-part-test.true c.part-item.is c.loop-part.invariant c.in-Ok-put_node.ensures

pub returns-after-loop-part : goal.returns-after-loop-part
returns-after-loop-part g t c = split_end c.args.tree.now _ _ c.args.block.now _ _ c.loop-part.part-index c.loop-part-test.false c.loop-part.invariant
