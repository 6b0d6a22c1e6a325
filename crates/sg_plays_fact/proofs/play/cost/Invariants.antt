use Rattle.sg_plays_fact.proofs.Adding.{IsCostTo}
use Rattle.sg_plays_fact.proofs.play.cost.Given as goal

-- the sum over the types so far
abbrev pub invariant-loop-i : goal.invariant-loop-i
invariant-loop-i l = IsCostTo l.game l.fix l.code l.i l.sum
