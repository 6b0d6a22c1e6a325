use Rattle.std.proofs.Common.{map}
use Rattle.sg_model.specs.Sums.{numbers}
use Rattle.sg_game.specs.Counts.{follower_pay}
use Rattle.sg_game.specs.Spreads.{AreEnds}
use Rattle.sg_desk.proofs.spans.column_spread.Given as goal

-- the ends so far
abbrev pub invariant-loop-i : goal.invariant-loop-i
invariant-loop-i l = AreEnds l.spread.least l.spread.greatest (map (λ i. follower_pay l.game l.l i l.a) (numbers l.i))
