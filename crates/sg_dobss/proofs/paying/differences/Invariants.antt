use Rattle.sg_dobss.specs.Paying.{AreNumbers, difference_at}
use Rattle.sg_dobss.proofs.paying.differences.Given as goal

abbrev pub invariant-loop-k : goal.invariant-loop-k
invariant-loop-k l = AreNumbers l.k (difference_at l.pays l.base) l.all
