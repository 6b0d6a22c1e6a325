use Rattle.std.proofs.Common.{take}
use Rattle.sg_check.proofs.Totals.{DividesSoFar}
use Rattle.sg_check.proofs.tickets.common_divisor.Given as goal

-- it divides the weights so far, and whatever divides them divides it
abbrev pub invariant-loop-ticket : goal.invariant-loop-ticket
invariant-loop-ticket l = DividesSoFar l.divisor (take l.ticket-index l.tickets)
