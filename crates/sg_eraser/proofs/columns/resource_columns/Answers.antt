use Rattle.std.proofs.Common.{◌∙◌, ap, arith, length, map, refl}
use Rattle.sg_model.specs.Games.{resource_schedules}
use Rattle.sg_bounds.specs.Coverage.{chooses}
use Rattle.sg_eraser.specs.TableValues.{meant_column}
use Rattle.sg_eraser.proofs.Written.{all-numbers, next-number}
use Rattle.sg_eraser.proofs.columns.resource_columns.Goals as goal

pub loop-k-preserved : goal.loop-k-preserved
loop-k-preserved c = next-number meant_column (chooses c.args.r) c.loop-k.k c.loop-k.columns c.push.new.self _ c.loop-k.invariant refl c.in_ok-push.ensures.ok

pub returns : goal.returns
returns c =
    let count = ap length c.resource_schedules-k-end.ensures.list in
    c.loop-k.invariant ∙ all-numbers (map (chooses c.args.r)) c.loop-k.k (length (resource_schedules c.args.game.now c.args.r)) (omega (arith, c.loop-k-test.false, count)) (omega (arith, c.loop-k.auto.k-end, count))
