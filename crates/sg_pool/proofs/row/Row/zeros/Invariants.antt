use Rattle.std.proofs.Common.{◌≡◌, pos, replicate}
use Rattle.sg_pool.proofs.row.Row.zeros.Given as goal

abbrev pub invariant-loop : goal.invariant-loop
invariant-loop l = l.places.items ≡ replicate l.counter (pos 0)
