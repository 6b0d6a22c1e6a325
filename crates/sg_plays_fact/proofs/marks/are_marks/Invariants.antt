use Rattle.std.proofs.Common.{take}
use Rattle.std.specs.List.{All}
use Rattle.sg_bounds.specs.Facts.{IsMarkOf}
use Rattle.sg_plays_fact.proofs.marks.are_marks.Given as goal

-- the marks so far may stand
abbrev pub invariant-loop-mark : goal.invariant-loop-mark
invariant-loop-mark l = All (IsMarkOf l.game l.fix) (take l.mark-index l.marks)
