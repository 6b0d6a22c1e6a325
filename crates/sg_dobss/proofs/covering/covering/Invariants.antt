use Rattle.std.proofs.Common.{◌≡◌, ◌+◌, ◌-◌}
use Rattle.sg_dobss.proofs.Covered.{covered_from}
use Rattle.sg_dobss.proofs.covering.covering.Given as goal

abbrev pub invariant-loop-k : goal.invariant-loop-k
invariant-loop-k l = l.all ≡ covered_from l.game l.t (l.resources + 1 - l.k) l.k
