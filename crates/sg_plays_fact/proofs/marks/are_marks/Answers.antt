use Rattle.std.proofs.Common.{arith, pos, refl, subst}
use Rattle.std.specs.List.{All}
use Rattle.std.proofs.lemmas.List.{take_all}
use Rattle.std.proofs.lemmas.List.Elements.{All-more}
use Rattle.sg_bounds.specs.Facts.{IsMarkOf}
use Rattle.sg_plays_fact.proofs.marks.are_marks.Goals as goal

pub loop-mark-preserved : goal.loop-mark-preserved
loop-mark-preserved c =
    All-more (IsMarkOf c.args.game.now c.args.fix.now) c.args.marks.now c.loop-mark.mark-index (record { l = 0; a = 0; v = pos 0 }) (omega arith) c.loop-mark.invariant (c.if-not-is_mark.ensures.0 refl)

pub returns : goal.returns
returns c =
    (λ _. subst (All (IsMarkOf c.args.game.now c.args.fix.now)) (take_all c.loop-mark.mark-index c.args.marks.now (omega arith)) c.loop-mark.invariant, λ _. refl)
