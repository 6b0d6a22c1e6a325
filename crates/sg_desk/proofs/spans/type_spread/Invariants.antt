use Rattle.std.specs.List.{flat_map}
use Rattle.sg_bounds.specs.Sizes.{attacker_payoffs_at}
use Rattle.sg_model.specs.Sums.{numbers}
use Rattle.sg_game.specs.Spreads.{AreEnds}
use Rattle.sg_desk.proofs.spans.type_spread.Given as goal

-- the ends so far
abbrev pub invariant-loop-a : goal.invariant-loop-a
invariant-loop-a l = AreEnds l.spread.least l.spread.greatest (flat_map (attacker_payoffs_at l.game l.l) (numbers l.a))
