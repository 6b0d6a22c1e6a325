use Rattle.std.proofs.Common.{◌≡◌, ◌∙◌, ◌+◌, ◌∷◌, ◌++◌, ℕ, List, [], Ok, Err, ap, arith, refl, subst, sym}
use Rattle.sg_tree.specs.declared.tree.Tree.{Tree}
use Rattle.sg_tree.specs.declared.tree.Tree.TheVariants.{Split}
use Rattle.sg_bounds.specs.Trees.{node_of}
use Rattle.sg_check.specs.Answering.{NodeAnswers}
use Rattle.sg_check.proofs.Walked.{closed-answers, open-answers, split-answers, split-fails, walk-end, walk-fails, walk-more}
use Rattle.sg_check.proofs.tree.+tree.Goals as goal

pub test_node-returns-in-Unproved : goal.test_node-returns-in-Unproved
test_node-returns-in-Unproved t c = open-answers c.args.game.now c.args.report.now c.args.acts.now c.args.node.now c.args.base.now c.args.top.now c.pass_open.result c.in-Unproved.is c.pass_open.ensures

pub test_node-returns-in-Closed : goal.test_node-returns-in-Closed
test_node-returns-in-Closed t c = closed-answers c.args.game.now c.args.report.now c.args.acts.now c.args.node.now c.in-Closed.fact c.args.base.now c.args.top.now c.test_closed.result c.in-Closed.is (c.test_closed.ensures c.args.base.now)

pub test_node-returns-in-Ok : goal.test_node-returns-in-Ok
test_node-returns-in-Ok t c =
    let is : c.args.node.now ≡ Split c.in-Split.l c.in-Split.own c.as_slice-parts.result.now = c.in-Split.is ∙ ap (λ (ps : List Tree). Split c.in-Split.l c.in-Split.own ps) (sym c.as_slice-parts.ensures) in
    split-answers c.args.game.now c.args.report.now c.args.acts.now c.args.node.now c.in-Split.l c.in-Split.own c.as_slice-parts.result.now c.args.base.now c.args.top.now
    (record { next = c.in-Ok.fork.next; best = c.args.top.now.best }) c.in-Ok.fork c.test_parts.result is refl refl c.in-Ok.ensures.answers c.test_parts.ensures

pub test_node-returns-in-Err : goal.test_node-returns-in-Err
test_node-returns-in-Err t c =
    let is : c.args.node.now ≡ Split c.in-Split.l c.in-Split.own c.as_slice-parts.result.now = c.in-Split.is ∙ ap (λ (ps : List Tree). Split c.in-Split.l c.in-Split.own ps) (sym c.as_slice-parts.ensures) in
    split-fails c.args.game.now c.args.report.now c.args.acts.now c.args.node.now c.in-Split.l c.in-Split.own c.as_slice-parts.result.now c.args.base.now c.args.top.now c.in-Err.refusal is c.in-Err.ensures.answers

pub test_parts-returns-in-Err : goal.test_parts-returns-in-Err
test_parts-returns-in-Err t c = λ n above bounds shows so_far.
    let code = c.extended-code.ensures.list ∙ ap (λ (i : ℕ). c.args.acts.now ++ (i + 1) ∷ []) c.loop-part.invariant.count in
    let answers = subst (λ (xs : List ℕ). NodeAnswers c.args.game.now c.args.report.now xs (node_of c.part-item.result) c.args.base.now (record { next = c.loop-part.next; best = c.loop-part.best }) (Err c.in-Err.refusal)) code c.in-Err.ensures in
    walk-fails c.args.game.now c.args.report.now c.args.acts.now n above bounds c.args.parts.now c.loop-part.next c.loop-part.best c.loop-part.part-index c.part-item.result c.loop-part-test.true c.part-item.is (c.loop-part.invariant.walked n above bounds shows so_far)
    c.args.base.now shows (record { next = c.loop-part.next; best = c.loop-part.best }) c.in-Err.refusal refl refl answers

pub test_parts-loop-part-preserved : goal.test_parts-loop-part-preserved
test_parts-loop-part-preserved t c = record {
  count = omega (arith, c.loop-part.invariant.count);
  walked = λ n above bounds shows so_far.
      let code = c.extended-code.ensures.list ∙ ap (λ (i : ℕ). c.args.acts.now ++ (i + 1) ∷ []) c.loop-part.invariant.count in
      let answers = subst (λ (xs : List ℕ). NodeAnswers c.args.game.now c.args.report.now xs (node_of c.part-item.result) c.args.base.now (record { next = c.loop-part.next; best = c.loop-part.best }) (Ok c.in-Ok.more)) code c.in-Ok.ensures in
      walk-more c.args.game.now c.args.report.now c.args.acts.now n above bounds c.args.parts.now c.loop-part.next c.loop-part.best c.loop-part.part-index c.part-item.result c.loop-part-test.true c.part-item.is (c.loop-part.invariant.walked n above bounds shows so_far)
      c.args.base.now shows (record { next = c.loop-part.next; best = c.loop-part.best }) c.in-Ok.more refl refl answers;
}

pub test_parts-returns : goal.test_parts-returns
test_parts-returns t c = λ n above bounds shows so_far.
    walk-end c.args.game.now c.args.report.now c.args.acts.now n above bounds c.args.parts.now c.loop-part.next c.loop-part.best c.loop-part.part-index c.loop-part-test.false (c.loop-part.invariant.walked n above bounds shows so_far)
