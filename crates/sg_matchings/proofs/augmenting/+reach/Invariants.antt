use Rattle.sg_matchings.specs.Matchings.{unseen}
use Rattle.sg_matchings.proofs.Paths.{AreTried}
use Rattle.sg_matchings.proofs.augmenting.+reach.Given as goal

abbrev pub decreases-reach : goal.decreases-reach
decreases-reach l = unseen l.seen.now

-- no row before had an augmenting path
abbrev pub invariant-loop-row : goal.invariant-loop-row
invariant-loop-row l = AreTried l.rows l.column l.fn.seen l.fn.matched l.seen l.matched l.row
