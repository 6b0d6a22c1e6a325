use Rattle.sg_matchings.proofs.Parts.{AreFreed}
use Rattle.sg_matchings.proofs.decomposing.free_zeros.Given as goal

-- the rows before are free or have a positive cell
abbrev pub invariant-loop-row : goal.invariant-loop-row
invariant-loop-row l = AreFreed l.rows l.fn.matched l.matched l.row
