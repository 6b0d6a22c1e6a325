use Rattle.std.proofs.Common.{◌+◌, ◌∷◌, [], ℕ, ℤ, map, sym, subst}
use Rattle.sg_model.specs.Sums.{numbers}
use Rattle.sg_game.specs.Counts.{follower_pay}
use Rattle.sg_game.specs.Spreads.{AreEnds}
use Rattle.sg_game.proofs.Spreads.{items-more}
use Rattle.sg_desk.proofs.spans.column_spread.Goals as goal

pub loop-i-preserved : goal.loop-i-preserved
loop-i-preserved c =
    let f : ℕ → ℤ = λ i. follower_pay c.args.game.now c.args.l i c.args.a in
    subst (AreEnds c.join-spread.result.least c.join-spread.result.greatest) (sym (items-more f c.loop-i.i))
    (c.join-spread.ensures (map f (numbers c.loop-i.i)) (f (c.loop-i.i + 1) ∷ []) c.loop-i.invariant c.row_spread.ensures)
