use Rattle.std.proofs.Common.{◌∙◌, arith, flat_map, length, map}
use Rattle.sg_model.specs.Games.{resource_count, resource_schedules}
use Rattle.sg_model.specs.Sums.{numbers}
use Rattle.sg_bounds.specs.Coverage.{chooses}
use Rattle.sg_eraser.specs.TableValues.{meant_column}
use Rattle.sg_eraser.proofs.Written.{all-numbers, next-list}
use Rattle.sg_eraser.proofs.columns.choice_columns.Goals as goal

pub loop-k-preserved : goal.loop-k-preserved
loop-k-preserved c =
    next-list meant_column (λ r. map (chooses r) (numbers (length (resource_schedules c.args.game.now r)))) c.loop-k.k c.loop-k.columns c.in_ok-resource_columns.field-0 c.append.new.self c.loop-k.invariant c.in_ok-resource_columns.ensures c.in_ok-append.ensures

pub returns : goal.returns
returns c =
    let count = c.resources-k-end.ensures.count in
    c.loop-k.invariant
    ∙ all-numbers (flat_map (λ r. map (chooses r) (numbers (length (resource_schedules c.args.game.now r))))) c.loop-k.k (resource_count c.args.game.now) (omega (arith, c.loop-k-test.false, count)) (omega (arith, c.loop-k.auto.k-end, count))
