use Rattle.std.proofs.Common.{◌≡◌, ◌^◌, length, pos}
use Rattle.std.specs.List.{All}
use Rattle.sg_num.specs.Exact.{IsAtMost}
use Rattle.sg_tree.specs.declared.fact.Line.{Line}
use Rattle.sg_cover_fact_tests.proofs.asking.lines_of.Given as goal

-- the lines so far
abbrev pub invariant-loop-row : goal.invariant-loop-row
invariant-loop-row l = (length l.lines.items ≡ l.row-index) × All (λ (line : Line). IsAtMost (pos (2 ^ 31)) line.v) l.lines.items
