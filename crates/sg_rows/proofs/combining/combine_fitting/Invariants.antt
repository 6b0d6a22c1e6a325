use Rattle.sg_rows.proofs.Placewise.{AreWritten, CombinedAt}
use Rattle.sg_rows.proofs.combining.combine_fitting.Given as goal

abbrev pub invariant-loop-j : goal.invariant-loop-j
invariant-loop-j l = AreWritten (CombinedAt l.p l.q l.initial.row l.other) l.initial.row l.row l.j
