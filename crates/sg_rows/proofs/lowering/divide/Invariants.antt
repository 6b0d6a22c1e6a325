use Rattle.sg_rows.proofs.Placewise.{AreWritten, QuotientAt}
use Rattle.sg_rows.proofs.lowering.divide.Given as goal

abbrev pub invariant-loop-j : goal.invariant-loop-j
invariant-loop-j l = AreWritten (QuotientAt l.divisor l.initial.row) l.initial.row l.row l.j
