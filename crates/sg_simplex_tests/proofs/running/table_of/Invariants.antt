use Rattle.std.proofs.Common.{◌≡◌}
use Rattle.sg_simplex_tests.proofs.running.table_of.Given as goal

abbrev pub invariant-loop-cost : goal.invariant-loop-cost
invariant-loop-cost l = l.table.height ≡ l.height
