use Rattle.sg_dobss.specs.Paying.{AreByPlay}
use Rattle.sg_dobss.specs.Tables.{cost_to}
use Rattle.sg_dobss.proofs.tables.costs.Given as goal

abbrev pub invariant-loop-i : goal.invariant-loop-i
invariant-loop-i l = AreByPlay l.game (cost_to l.game l.fix l.i) l.costs
