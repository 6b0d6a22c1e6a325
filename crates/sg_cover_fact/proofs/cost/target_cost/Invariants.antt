use Rattle.sg_cover_fact.proofs.Costs.{IsCostTo, target_to}
use Rattle.sg_cover_fact.proofs.cost.target_cost.Given as goal

-- the cost by the types so far, within its bounds
abbrev pub invariant-loop-i : goal.invariant-loop-i
invariant-loop-i l = IsCostTo (target_to l.game l.fix l.t l.i) l.i l.cost
