use Rattle.std.proofs.Common.{◌∙◌, arith, map, refl}
use Rattle.sg_bounds.specs.Coverage.{spends}
use Rattle.sg_model.specs.Games.{resource_count}
use Rattle.sg_eraser.specs.TableValues.{meant_row}
use Rattle.sg_eraser.proofs.Written.{all-numbers, next-number}
use Rattle.sg_eraser.proofs.rows.resource_rows.Goals as goal

pub loop-k-preserved : goal.loop-k-preserved
loop-k-preserved c = next-number meant_row spends c.loop-k.k c.loop-k.rows c.push.new.self _ c.loop-k.invariant refl c.in_ok-push.ensures.ok

pub returns : goal.returns
returns c =
    let count = c.resources-k-end.ensures.count in
    c.loop-k.invariant ∙ all-numbers (map spends) c.loop-k.k (resource_count c.args.game.now) (omega (arith, c.loop-k-test.false, count)) (omega (arith, c.loop-k.auto.k-end, count))
