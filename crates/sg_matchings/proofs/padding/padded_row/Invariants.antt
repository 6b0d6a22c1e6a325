use Rattle.sg_matchings.proofs.PadSteps.{AreCells}
use Rattle.sg_matchings.proofs.padding.padded_row.Given as goal

-- the cells before
abbrev pub invariant-loop-j : goal.invariant-loop-j
invariant-loop-j l = AreCells l.counts l.width l.most l.i l.row l.j
