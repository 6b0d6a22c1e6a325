use Rattle.std.proofs.Common.{take}
use Rattle.std.specs.List.{All}
use Rattle.sg_bounds.specs.Facts.{IsLineOf}
use Rattle.sg_cover_fact.proofs.fact.are_lines.Given as goal

-- the lines so far may stand
abbrev pub invariant-loop-line : goal.invariant-loop-line
invariant-loop-line l = All (IsLineOf l.game l.fix) (take l.line-index l.lines)
