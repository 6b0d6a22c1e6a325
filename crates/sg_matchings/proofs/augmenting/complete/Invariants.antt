use Rattle.sg_matchings.specs.Matchings.{AreMatched}
use Rattle.sg_matchings.proofs.augmenting.complete.Given as goal

-- the columns so far are matched
abbrev pub invariant-loop-column : goal.invariant-loop-column
invariant-loop-column l = AreMatched l.rows l.matched l.column
