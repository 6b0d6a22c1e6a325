use Rattle.std.proofs.Common.{◌≡◌}
use Rattle.sg_simplex_tests.proofs.running.end_of.Given as goal

abbrev pub invariant-loop-k : goal.invariant-loop-k
invariant-loop-k l = (l.node.width ≡ l.initial.node.width) × (l.node.family ≡ l.initial.node.family)
