use Rattle.sg_matchings.proofs.Turning.{IsResetting}
use Rattle.sg_matchings.proofs.mirror.reset.Given as goal

-- the columns before have their own rows
abbrev pub invariant-loop-t : goal.invariant-loop-t
invariant-loop-t l = IsResetting l.count l.width l.fn.columns l.columns l.t
