use Rattle.std.proofs.Common.{take}
use Rattle.sg_commit.specs.Joining.{IsCommonDivisor}
use Rattle.sg_commit.proofs.joining.common_divisor.Given as goal

-- of the weights so far
abbrev pub invariant-loop-i : goal.invariant-loop-i
invariant-loop-i l = IsCommonDivisor (take l.i l.tickets) l.divisor
