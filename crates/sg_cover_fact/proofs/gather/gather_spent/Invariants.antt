use Rattle.std.proofs.Common.{◌≡◌, ℕ, pos, take, slice_index_or}
use Rattle.sg_cover_fact.specs.LineSums.{spent_sum}
use Rattle.sg_cover_fact.proofs.gather.gather_spent.Given as goal

-- the sums of the lines so far
abbrev pub invariant-loop-line : goal.invariant-loop-line
invariant-loop-line l = (r : ℕ) → slice_index_or l.spent r (pos 0) ≡ spent_sum l.game l.fix (take l.line-index l.lines) r
