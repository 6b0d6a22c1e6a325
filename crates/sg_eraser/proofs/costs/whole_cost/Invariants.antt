use Rattle.sg_eraser.proofs.CostSums.{IsSumTo, whole_term}
use Rattle.sg_eraser.proofs.costs.whole_cost.Given as goal

-- the cost by the types so far, within its bounds
abbrev pub invariant-loop-i : goal.invariant-loop-i
invariant-loop-i l = IsSumTo (whole_term l.game) l.fix l.i l.cost
