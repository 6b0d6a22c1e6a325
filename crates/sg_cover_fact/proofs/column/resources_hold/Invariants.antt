use Rattle.std.proofs.Common.{ℕ, ◌<◌, ◌+◌, pos, slice_index_or}
use Rattle.sg_cover_fact.specs.Holding.{ResourceHolds}
use Rattle.sg_cover_fact.proofs.column.resources_hold.Given as goal

-- the resources so far hold
abbrev pub invariant-loop-k : goal.invariant-loop-k
invariant-loop-k l = (i : ℕ) → i < l.k → ResourceHolds l.game l.held (i + 1) (slice_index_or l.spent (i + 1) (pos 0))
