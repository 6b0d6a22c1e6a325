use Rattle.std.proofs.Common.{take}
use Rattle.sg_walk.specs.Marks.{TakesMarks, is_among}
use Rattle.sg_walk.proofs.marking.uncover.Given as goal

-- the mark is taken off the targets so far
abbrev pub invariant-loop-t : goal.invariant-loop-t
invariant-loop-t l = TakesMarks l.fn.marks (is_among (take l.t-index l.targets)) l.r l.marks
