use Rattle.sg_split.proofs.TargetRows.{IsRowUpTo}
use Rattle.sg_split.proofs.targeting.add_all.Given as goal

-- the counts of the choices before, by target
abbrev pub invariant-loop-j : goal.invariant-loop-j
invariant-loop-j l = IsRowUpTo l.game l.r l.counts l.row l.j
