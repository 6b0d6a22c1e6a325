use Rattle.sg_eraser.proofs.Weighed.{IsAmountTo}
use Rattle.sg_eraser.proofs.amounts.amount_at.Given as goal

-- the weight by the parts so far
abbrev pub invariant-loop-i : goal.invariant-loop-i
invariant-loop-i l = IsAmountTo l.columns l.want l.parts l.i l.sum
