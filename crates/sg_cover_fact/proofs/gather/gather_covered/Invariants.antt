use Rattle.std.proofs.Common.{◌≡◌, ℕ, pos, take, slice_index_or}
use Rattle.sg_game.specs.Counts.{IsGoalOf}
use Rattle.sg_bounds.specs.Coverage.{covering}
use Rattle.sg_cover_fact.specs.LineSums.{sum_in_column}
use Rattle.sg_cover_fact.proofs.gather.gather_covered.Given as goal

-- the sums of the lines so far
abbrev pub invariant-loop-line : goal.invariant-loop-line
invariant-loop-line l = (t : ℕ) → IsGoalOf l.game t → slice_index_or l.covered t (pos 0) ≡ sum_in_column l.game l.fix (take l.line-index l.lines) (covering t)
