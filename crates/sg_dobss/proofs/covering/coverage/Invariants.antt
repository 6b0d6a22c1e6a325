use Rattle.sg_dobss.proofs.Covered.{AreCoveredTo}
use Rattle.sg_dobss.proofs.covering.coverage.Given as goal

abbrev pub invariant-loop-t : goal.invariant-loop-t
invariant-loop-t l = AreCoveredTo l.game l.t l.all
