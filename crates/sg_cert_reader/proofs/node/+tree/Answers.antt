use Rattle.std.proofs.Common.{◌∙◌, sym, arith}
use Rattle.sg_cert.specs.Fields.{fields}
use Rattle.sg_cert.specs.Reading.{node_at}
use Rattle.sg_cert_reader.proofs.Repeats.{repeat_more, repeat_end, repeat_fails}
use Rattle.sg_cert.proofs.Nodes.{split_done, node_leaf, node_split}
use Rattle.sg_cert_reader.proofs.NodeSteps.{split_refused, split_baseless, split_partless, node_unread, node_deep, gives_along}
use Rattle.sg_cert_reader.proofs.node.+tree.Goals as goal

pub parts-returns : goal.parts-returns
parts-returns t c = repeat_end (λ done q. node_at c.args.left q) c.loop.parts c.args.n c.loop.counter c.loop.lines _ c.loop-test.false c.loop.invariant

pub parts-returns-in-Err : goal.parts-returns-in-Err
parts-returns-in-Err t c = repeat_fails (λ done q. node_at c.args.left q) c.loop.parts c.args.n c.loop.counter c.loop.lines c.in-Err.error _ c.loop-test.true c.in-Err.ensures c.loop.invariant

pub parts-loop-preserved : goal.parts-loop-preserved
parts-loop-preserved t c =
    let e = c.in_ok-push-in-Ok.ensures.ok in
    rw e (repeat_more (λ done q. node_at c.args.left q) c.loop.parts c.args.n c.loop.counter c.loop.lines c.node.new.lines c.in-Ok.part _ c.loop-test.true c.in-Ok.ensures c.loop.invariant)

pub split_after-returns-in-Err : goal.split_after-returns-in-Err
split_after-returns-in-Err t c = split_refused (node_at c.args.left) (fields c.args.line.now) c.args.lines.now c.in-Err.fault c.in-Err.ensures

pub split_after-returns-in-Err-base : goal.split_after-returns-in-Err-base
split_after-returns-in-Err-base t c = split_baseless (node_at c.args.left) (fields c.args.line.now) c.args.lines.now c.in-Ok.split.0 c.in-Ok.split.1 c.in-Err-base.error c.in-Ok.ensures c.in-Err-base.ensures

pub split_after-returns-in-Ok-parts : goal.split_after-returns-in-Ok-parts
split_after-returns-in-Ok-parts t c = split_done (node_at c.args.left) (fields c.args.line.now) c.args.lines.now c.base.new.lines c.parts.new.lines c.in-Ok.split.0 c.in-Ok.split.1 c.in-Ok-base.base c.in-Ok-parts.parts c.in-Ok.ensures c.in-Ok-base.ensures c.in-Ok-parts.ensures

pub split_after-returns-in-Err-parts : goal.split_after-returns-in-Err-parts
split_after-returns-in-Err-parts t c = split_partless (node_at c.args.left) (fields c.args.line.now) c.args.lines.now c.base.new.lines c.in-Ok.split.0 c.in-Ok.split.1 c.in-Ok-base.base c.in-Err-parts.error c.in-Ok.ensures c.in-Ok-base.ensures c.in-Err-parts.ensures

pub node-returns-in-Err : goal.node-returns-in-Err
node-returns-in-Err t c = node_unread c.args.left c.args.lines.now c.in-Err.fault c.in-Err.ensures

pub node-returns-then-not-has_word_at : goal.node-returns-then-not-has_word_at
node-returns-then-not-has_word_at t c = gives_along c.leaf_after.result c.leaf_after.new.lines _ _ (node_leaf c.args.left c.args.lines.now c.next.new.self c.in-Ok.line.now c.in-Ok.ensures (sym c.has_word_at.ensures ∙ c.if-not-has_word_at.true)) c.leaf_after.ensures

pub node-returns-then-left-eq0 : goal.node-returns-then-left-eq0
node-returns-then-left-eq0 t c = node_deep c.args.left c.args.lines.now c.next.new.self c.in-Ok.line.now c.if-left-eq0.true c.in-Ok.ensures (sym c.has_word_at.ensures ∙ c.if-not-has_word_at.false) ∙ c.deep_after.ensures

pub node-returns-else-left-eq0 : goal.node-returns-else-left-eq0
node-returns-else-left-eq0 t c =
    gives_along c.split_after.result c.split_after.new.lines _ _ (node_split c.args.left c.args.lines.now c.next.new.self c.in-Ok.line.now (omega (arith, c.if-left-eq0.false)) c.in-Ok.ensures (sym c.has_word_at.ensures ∙ c.if-not-has_word_at.false)) c.split_after.ensures
