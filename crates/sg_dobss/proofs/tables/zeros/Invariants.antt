use Rattle.std.proofs.Common.{◌≡◌, pos, replicate}
use Rattle.sg_dobss.proofs.tables.zeros.Given as goal

abbrev pub invariant-loop-k : goal.invariant-loop-k
invariant-loop-k l = l.all ≡ replicate l.k (pos 0)
