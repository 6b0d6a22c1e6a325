use Rattle.std.specs.List.{flat_map}
use Rattle.sg_model.specs.Payoffs.{payoffs_at}
use Rattle.sg_model.specs.Sums.{numbers}
use Rattle.sg_game.specs.Spreads.{IsSpread}
use Rattle.sg_game.proofs.spread.type_spread.Given as goal

-- the ends so far
abbrev pub invariant-loop-a : goal.invariant-loop-a
invariant-loop-a l = IsSpread l.spread (flat_map (payoffs_at l.game l.l) (numbers l.a))
