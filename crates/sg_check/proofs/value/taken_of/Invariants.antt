use Rattle.sg_check.proofs.Valued.{IsTakenSoFar}
use Rattle.sg_check.proofs.value.taken_of.Given as goal

-- what is taken of the actions so far
abbrev pub invariant-loop-i : goal.invariant-loop-i
invariant-loop-i l = IsTakenSoFar l.game l.tickets l.l l.i l.best.sum l.taken
