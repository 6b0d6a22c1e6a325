use Rattle.std.proofs.Common.{length}
use Rattle.sg_simplex.specs.Least.{Least}
use Rattle.sg_simplex.proofs.leaving.least_row.Given as goal

abbrev pub invariant-loop-k : goal.invariant-loop-k
invariant-loop-k l = Least (length l.state.tableau.rows) l.state.tableau.rows l.products l.k l.best
