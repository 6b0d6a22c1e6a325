use Rattle.sg_cover_fact.proofs.Costs.{IsCostTo, whole_to}
use Rattle.sg_cover_fact.proofs.cost.whole_cost.Given as goal

-- the cost by the types so far, within its bounds
abbrev pub invariant-loop-i : goal.invariant-loop-i
invariant-loop-i l = IsCostTo (whole_to l.game l.fix l.i) l.i l.cost
