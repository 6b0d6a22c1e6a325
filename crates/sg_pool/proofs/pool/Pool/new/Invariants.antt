use Rattle.std.proofs.Common.{◌≡◌, ◌≤◌, pos, replicate}
use Rattle.std.specs.Prelude.{vec_capacity}
use Rattle.sg_pool.proofs.pool.Pool.new.Given as goal

abbrev pub invariant-loop : goal.invariant-loop
invariant-loop l = (l.free.items ≡ replicate l.counter (replicate l.width (pos 0))) × (l.count ≤ vec_capacity l.free)
