use Rattle.std.specs.List.{flat_map}
use Rattle.sg_model.specs.Payoffs.{payoffs_of}
use Rattle.sg_model.specs.Sums.{numbers}
use Rattle.sg_game.specs.Spreads.{IsSpread}
use Rattle.sg_game.proofs.spread.spread_of.Given as goal

-- the ends so far
abbrev pub invariant-loop-l : goal.invariant-loop-l
invariant-loop-l l = IsSpread l.spread (flat_map (payoffs_of l.game) (numbers l.l))
