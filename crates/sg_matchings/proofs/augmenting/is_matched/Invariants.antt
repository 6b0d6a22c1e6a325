use Rattle.sg_matchings.proofs.Perfect.{HaveNot}
use Rattle.sg_matchings.proofs.augmenting.is_matched.Given as goal

-- no row before has the column
abbrev pub invariant-loop-row : goal.invariant-loop-row
invariant-loop-row l = HaveNot l.matched l.column l.row
