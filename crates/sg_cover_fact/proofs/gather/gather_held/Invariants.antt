use Rattle.std.proofs.Common.{◌≡◌, ℕ, pos, take, slice_index_or}
use Rattle.sg_cover_fact.specs.LineSums.{held_sum}
use Rattle.sg_cover_fact.proofs.gather.gather_held.Given as goal

-- the sums of the lines so far
abbrev pub invariant-loop-line : goal.invariant-loop-line
invariant-loop-line l = (t : ℕ) → slice_index_or l.held t (pos 0) ≡ held_sum l.game l.fix (take l.line-index l.lines) t
