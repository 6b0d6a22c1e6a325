use Rattle.sg_split.specs.Matched.{counts_of}
use Rattle.sg_split.proofs.TargetRows.{AreRowsUpTo}
use Rattle.sg_split.proofs.targeting.rows_of.Given as goal

-- the rows of the resources before
abbrev pub invariant-loop-r : goal.invariant-loop-r
invariant-loop-r l = AreRowsUpTo l.game (counts_of l.table) l.rows.items l.r
