use Rattle.std.proofs.Common.{length}
use Rattle.sg_simplex.proofs.Rowwise.{AreMultiplied}
use Rattle.sg_simplex.proofs.fitting.write_products.Given as goal

abbrev pub invariant-loop-k : goal.invariant-loop-k
invariant-loop-k l = AreMultiplied l.entries l.state.tableau.rows (length l.initial.products) l.products l.k
