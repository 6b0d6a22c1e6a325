use Rattle.sg_matchings.proofs.Least.{IsLeastBelow}
use Rattle.sg_matchings.proofs.decomposing.least_on.Given as goal

-- the least of the rows before
abbrev pub invariant-loop-row : goal.invariant-loop-row
invariant-loop-row l = IsLeastBelow l.rows l.columns l.least l.row
