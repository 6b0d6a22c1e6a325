use Rattle.std.proofs.Common.{◌∙◌, rules}
use Rattle.std.specs.Int.{w64}
use Rattle.std.specs.Prelude.{FitsSigned}
use Rattle.std.proofs.lemmas.Int.{to_z-of_z}
use Rattle.sg_bounds.specs.Coverage.{column_cost}
use Rattle.sg_eraser.specs.TableValues.{meant_column}
use Rattle.sg_eraser.proofs.Written.{all-items, next-item}
use Rattle.sg_eraser.proofs.costs.costs.Goals as goal

pub loop-column-preserved : goal.loop-column-preserved
loop-column-preserved c =
    let fits : FitsSigned w64 c.cost_of.result = search rules in
    let pushed = simp to_z-of_z at c.in_ok-push.ensures.ok in
    next-item (λ d. column_cost c.args.game.now c.args.fix.now (meant_column d)) c.args.columns.now c.loop-column.column-index _ c.loop-column.costs c.push.new.self c.cost_of.result c.loop-column-test.true c.loop-column.invariant c.cost_of.ensures pushed

pub returns : goal.returns
returns c = c.loop-column.invariant ∙ all-items (λ d. column_cost c.args.game.now c.args.fix.now (meant_column d)) c.args.columns.now c.loop-column.column-index c.loop-column-test.false c.loop-column.auto.column-index-end
