use Rattle.sg_dobss.specs.Paying.{AreNumbers}
use Rattle.sg_dobss.specs.Tables.{added_to}
use Rattle.sg_dobss.proofs.tables.with_pays.Given as goal

abbrev pub invariant-loop-k : goal.invariant-loop-k
invariant-loop-k l = AreNumbers l.k (added_to l.costs l.prior l.shift l.pays) l.sums
