use Rattle.std.specs.Prelude.{unsigned_abs}
use Rattle.sg_dual.proofs.Shared.{AreWeighed}
use Rattle.sg_dual.proofs.weighing.weighed.Given as goal

-- the parts of the shares before this one
abbrev pub invariant-loop-i : goal.invariant-loop-i
invariant-loop-i l = AreWeighed (unsigned_abs l.whole) l.shares l.i l.parts.items
