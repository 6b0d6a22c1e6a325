use Rattle.sg_matchings.proofs.Turning.{IsTurning}
use Rattle.sg_matchings.proofs.mirror.turn.Given as goal

-- the rows before are turned
abbrev pub invariant-loop-i : goal.invariant-loop-i
invariant-loop-i l = IsTurning l.count l.width l.fn.columns l.columns l.i
