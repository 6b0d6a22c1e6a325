use Rattle.sg_matchings.proofs.PadSteps.{AreRows}
use Rattle.sg_matchings.proofs.padding.padded.Given as goal

-- the rows before
abbrev pub invariant-loop-i : goal.invariant-loop-i
invariant-loop-i l = AreRows l.counts l.width l.most l.rows.items l.i
