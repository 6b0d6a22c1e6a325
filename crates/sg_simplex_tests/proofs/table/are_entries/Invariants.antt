use Rattle.std.proofs.Common.{ℕ, ◌<◌, ◌+◌, ◌^◌, slice_index_or, pos}
use Rattle.sg_num.specs.Exact.{IsAtMost}
use Rattle.sg_simplex_tests.proofs.table.are_entries.Given as goal

abbrev pub invariant-loop-x : goal.invariant-loop-x
invariant-loop-x l = (k : ℕ) → k < l.x-index → IsAtMost (pos (2 ^ 31 + 1)) (slice_index_or l.entries k (pos 0))
