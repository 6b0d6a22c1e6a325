use Rattle.std.proofs.Common.{ℕ, ◌<◌, ◌+◌, slice_index_or}
use Rattle.sg_plays_fact_tests.proofs.Known.{IsAction}
use Rattle.sg_plays_fact_tests.proofs.nodes.node_of.Given as goal

abbrev pub invariant-loop-i : goal.invariant-loop-i
invariant-loop-i l = (k : ℕ) → k < l.i → IsAction l.game (l.first + k, slice_index_or l.acts k 0)
