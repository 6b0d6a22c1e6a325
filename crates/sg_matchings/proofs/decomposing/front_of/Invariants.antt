use Rattle.sg_matchings.specs.Mirrors.{IsFront}
use Rattle.sg_matchings.proofs.decomposing.front_of.Given as goal

-- the columns before
abbrev pub invariant-loop-i : goal.invariant-loop-i
invariant-loop-i l = IsFront l.i l.columns l.front
