use Rattle.sg_dobss.specs.Tables.{AreGainRows}
use Rattle.sg_dobss.proofs.tables.rows.Given as goal

abbrev pub invariant-loop-i : goal.invariant-loop-i
invariant-loop-i l = AreGainRows l.game l.fix l.i l.rows
