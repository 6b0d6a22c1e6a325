use Rattle.std.proofs.Common.{◌≡◌, ℕ, List, ◌∷◌, Some, refl, subst}
use Rattle.sg_num.specs.Operations.{first_wide}
use Rattle.sg_tree.specs.declared.report.Cap.{Cap}
use Rattle.sg_bounds.specs.Accepted.{IsGreatest}
use Rattle.sg_bounds.specs.Leaves.{tree_bounds_of}
use Rattle.sg_bounds.specs.Trees.{node_of}
use Rattle.sg_upper.specs.TreeSteps.{node_steps}
use Rattle.sg_solve.specs.Ending.{EndsBy}
use Rattle.sg_solve.proofs.Closing.{alike, bounded, capped, closing, never-wide}
use Rattle.sg_solve.proofs.ending.answer_of.Goals as goal

pub upper-requires-clause-caps : goal.upper-requires-clause-caps
upper-requires-clause-caps c = rw c.as_slice.ensures (capped c.args.game.now c.promises.ensures c.requires.unscaled c.args.budget.now c.args.order.now c.requires.budget c.requires.order c.args.end c.requires.end)

pub upper-requires-clause-tree : goal.upper-requires-clause-tree
upper-requires-clause-tree c = bounded c.args.game.now c.promises.ensures c.requires.unscaled c.args.budget.now c.args.order.now c.requires.budget c.requires.order c.args.end c.requires.end

pub of-requires : goal.of-requires
of-requires c = alike c.args.game.now c.promises.ensures c.requires.unscaled c.args.budget.now c.args.order.now c.requires.budget c.requires.order c.args.end c.requires.end

pub unreachable-requires : goal.unreachable-requires
unreachable-requires c =
    never-wide c.args.game.now c.promises.ensures c.requires.unscaled c.args.budget.now c.args.order.now c.requires.budget c.requires.order c.args.end c.requires.end c.in-Err.field-0
    (subst (λ (cs : List Cap). first_wide (node_steps c.args.game.now cs 0 (node_of c.args.end.tree)) ≡ Some c.in-Err.field-0) c.as_slice.ensures c.in-Err.ensures)

pub returns : goal.returns
returns c =
    closing c.args.game.now c.promises.ensures c.requires.unscaled c.args.budget.now c.args.order.now c.requires.budget c.requires.order c.args.end c.requires.end c.in-Ok.top
    (subst (λ (cs : List Cap). IsGreatest c.in-Ok.top (c.args.end.value ∷ tree_bounds_of c.args.game.now cs (node_of c.args.end.tree))) c.as_slice.ensures c.in-Ok.ensures.1) c.in-Ok.ensures.2
    c.ending_of-ending.result (subst (λ (n : ℕ). EndsBy c.args.end.value c.in-Ok.top c.args.end.stuck n c.ending_of-ending.result) c.requires.nodes c.ending_of-ending.ensures)
    c.operands_of-operands.ensures c.of.result c.args.end.worked c.of.ensures refl
