use Rattle.std.proofs.Common.{◌+◌, sym, subst}
use Rattle.std.specs.List.{flat_map}
use Rattle.sg_bounds.specs.Sizes.{attacker_payoffs_at}
use Rattle.sg_model.specs.Sums.{numbers}
use Rattle.sg_game.specs.Spreads.{AreEnds}
use Rattle.sg_game.proofs.Spreads.{lists-more}
use Rattle.sg_desk.proofs.spans.type_spread.Goals as goal

pub loop-a-preserved : goal.loop-a-preserved
loop-a-preserved c =
    let f = attacker_payoffs_at c.args.game.now c.args.l in
    subst (AreEnds c.join-spread.result.least c.join-spread.result.greatest) (sym (lists-more f c.loop-a.a))
    (c.join-spread.ensures (flat_map f (numbers c.loop-a.a)) (f (c.loop-a.a + 1)) c.loop-a.invariant c.action_spread.ensures)
