use Rattle.std.proofs.Common.{◌≡◌}
use Rattle.sg_simplex_tests.proofs.running.first_wrong_turn.Given as goal

abbrev pub invariant-loop-k : goal.invariant-loop-k
invariant-loop-k l = (l.node.width ≡ l.initial.node.width) × (l.node.family ≡ l.initial.node.family)
