use Rattle.std.proofs.Common.{◌∙◌, sym}
use Rattle.sg_game.proofs.Patrols.{names-more}
use Rattle.sg_game.proofs.convert.names_to.Goals as goal

pub loop-k-preserved : goal.loop-k-preserved
loop-k-preserved c =
    c.in_ok-push.ensures.ok ∙ (rw (c.in_ok-patrol_name_from.ensures, c.loop-k.invariant) (sym (names-more c.loop-k.k)))
