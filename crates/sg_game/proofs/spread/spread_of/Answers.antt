use Rattle.std.proofs.Common.{◌+◌, sym, subst}
use Rattle.std.specs.List.{flat_map}
use Rattle.sg_model.specs.Payoffs.{payoffs_of}
use Rattle.sg_model.specs.Sums.{numbers}
use Rattle.sg_game.specs.Spreads.{IsSpread}
use Rattle.sg_game.proofs.Spreads.{lists-more}
use Rattle.sg_game.proofs.spread.spread_of.Goals as goal

pub loop-l-preserved : goal.loop-l-preserved
loop-l-preserved c =
    let f = payoffs_of c.args.game.now in
    subst (IsSpread c.join-spread.result) (sym (lists-more f c.loop-l.l))
    (c.join-spread.ensures (flat_map f (numbers c.loop-l.l)) (f (c.loop-l.l + 1)) c.loop-l.invariant c.type_spread.ensures)
