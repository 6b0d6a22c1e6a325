use Rattle.sg_check.proofs.Watered.{greatest-more}
use Rattle.sg_check.proofs.water.greatest_part.Goals as goal

pub loop-i-preserved : goal.loop-i-preserved
loop-i-preserved c = greatest-more c.args.game.now c.args.level.now c.loop-i.i c.loop-i.best c.part_at.result c.join-best.result c.loop-i.invariant c.part_at.ensures c.join-best.ensures
