use Rattle.std.proofs.Common.{◌∙◌}
use Rattle.sg_dobss.proofs.Covered.{covered-more}
use Rattle.sg_dobss.proofs.covering.covering.Goals as goal

pub loop-k-preserved : goal.loop-k-preserved
loop-k-preserved c =
    covered-more c.args.game.now c.args.t c.resources-resources.result c.loop-k.k c.as_slice.result.now c.in_ok-all-2.all c.loop-k-test.true (c.as_slice.ensures ∙ c.loop-k.invariant) c.in_ok-all-2.ensures
