use Rattle.sg_simplex_tests.proofs.InTurn.{IsAnsweredFrom}
use Rattle.sg_simplex_tests.proofs.pricing.price_in.Given as goal

abbrev pub invariant-loop-i : goal.invariant-loop-i
invariant-loop-i l = IsAnsweredFrom l.y l.costs l.entries l.rho l.budget l.i
