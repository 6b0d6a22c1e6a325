use Rattle.sg_plays_fact.proofs.Fresh.{IsCoveredTo}
use Rattle.sg_plays_fact.proofs.search.cover.Given as goal

-- what is marked and summed after the targets so far
abbrev pub invariant-loop-t : goal.invariant-loop-t
invariant-loop-t l = IsCoveredTo l.weights l.targets l.t-index l.fn.covered l.covered l.fn.sum l.total
