use Rattle.std.proofs.Common.{◌≡◌, drop, pos}
use Rattle.sg_dual.proofs.Shared.{totals_from, weights}
use Rattle.sg_dual.proofs.weighing.add_up.Given as goal

abbrev pub invariant-loop-i : goal.invariant-loop-i
invariant-loop-i l = totals_from (pos 0) (weights l.parts) ≡ totals_from l.total (weights (drop l.i l.parts))
