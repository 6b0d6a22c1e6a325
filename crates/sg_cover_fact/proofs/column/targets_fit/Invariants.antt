use Rattle.std.proofs.Common.{pos, slice_index_or}
use Rattle.sg_cover_fact.proofs.Rest.{IsLeft}
use Rattle.sg_cover_fact.proofs.column.targets_fit.Given as goal

-- what is left of the most after the sums so far
abbrev pub invariant-loop-t : goal.invariant-loop-t
invariant-loop-t l = IsLeft (λ t. slice_index_or l.held t (pos 0)) l.most l.left l.targets l.t-index
