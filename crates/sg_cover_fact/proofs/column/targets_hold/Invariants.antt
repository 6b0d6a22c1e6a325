use Rattle.std.proofs.Common.{ℕ, ◌<◌, ◌+◌, pos, slice_index_or}
use Rattle.std.specs.Prelude.{◌*ℤ◌, ◌≤ℤ◌}
use Rattle.sg_bounds.specs.Coverage.{column_cost, covering}
use Rattle.sg_cover_fact.proofs.column.targets_hold.Given as goal

-- the targets so far hold
abbrev pub invariant-loop-k : goal.invariant-loop-k
invariant-loop-k l = (i : ℕ) → i < l.k → (l.rho *ℤ column_cost l.game l.fix (covering (i + 1))) ≤ℤ slice_index_or l.covered (i + 1) (pos 0)
