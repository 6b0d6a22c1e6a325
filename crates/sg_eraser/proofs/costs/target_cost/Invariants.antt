use Rattle.sg_eraser.proofs.CostSums.{IsSumTo, target_term}
use Rattle.sg_eraser.proofs.costs.target_cost.Given as goal

-- the cost by the types so far, within its bounds
abbrev pub invariant-loop-i : goal.invariant-loop-i
invariant-loop-i l = IsSumTo (target_term l.game l.t) l.fix l.i l.cost
