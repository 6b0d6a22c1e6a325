use Rattle.sg_origami.specs.Rates.{IsCountDivisor}
use Rattle.sg_origami.proofs.count.divisor_of.Given as goal

abbrev pub invariant-loop-t : goal.invariant-loop-t
invariant-loop-t l = IsCountDivisor l.game l.level.num l.level.den l.whole l.t l.divisor
