use Rattle.std.proofs.Common.{◌∙◌, arith, length, map, refl}
use Rattle.sg_bounds.specs.Coverage.{covering}
use Rattle.sg_eraser.specs.TableValues.{meant_column}
use Rattle.sg_eraser.proofs.Counted.{targets-are}
use Rattle.sg_eraser.proofs.Written.{all-numbers, next-number}
use Rattle.sg_eraser.proofs.columns.target_columns.Goals as goal

pub loop-k-preserved : goal.loop-k-preserved
loop-k-preserved c = next-number meant_column covering c.loop-k.k c.loop-k.columns c.push.new.self _ c.loop-k.invariant refl c.in_ok-push.ensures.ok

pub returns : goal.returns
returns c =
    let count = targets-are c.args.game.now c.requires.security c.targets-k-end.result c.targets-k-end.ensures.count in
    c.loop-k.invariant ∙ all-numbers (map covering) c.loop-k.k (length c.args.game.now.goals) (omega (arith, c.loop-k-test.false, count)) (omega (arith, c.loop-k.auto.k-end, count))
