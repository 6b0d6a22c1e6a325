use Rattle.std.proofs.Common.{◌≡◌, take}
use Rattle.sg_bounds.specs.Coverage.{always}
use Rattle.sg_cover_fact.specs.LineSums.{sum_in_column}
use Rattle.sg_cover_fact.proofs.gather.whole_sum.Given as goal

-- the sum of the lines so far
abbrev pub invariant-loop-line : goal.invariant-loop-line
invariant-loop-line l = l.sum ≡ sum_in_column l.game l.fix (take l.line-index l.lines) always
