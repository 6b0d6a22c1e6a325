use Rattle.sg_check.proofs.Watered.{IsNeeded}
use Rattle.sg_check.proofs.water.needed.Given as goal

-- what the targets so far need
abbrev pub invariant-loop-i : goal.invariant-loop-i
invariant-loop-i l = IsNeeded l.game l.level.num l.level.den l.i l.sum
