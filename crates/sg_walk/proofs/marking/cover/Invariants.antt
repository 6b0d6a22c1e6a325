use Rattle.std.proofs.Common.{◌≡◌, length, take}
use Rattle.sg_walk.specs.Marks.{AddsMarks, has_mark, is_among}
use Rattle.sg_walk.specs.Weights.{sum_where}
use Rattle.sg_walk.proofs.marking.cover.Given as goal

-- the targets so far are marked, and the sum is that of the marked ones
abbrev pub invariant-loop-t : goal.invariant-loop-t
invariant-loop-t l =
    AddsMarks l.fn.marks (is_among (take l.t-index l.targets)) l.r l.marks × (l.total ≡ sum_where l.weights (has_mark l.marks) (length l.weights))
