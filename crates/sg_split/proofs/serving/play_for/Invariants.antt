use Rattle.sg_split.proofs.Served.{IsPlayUpTo}
use Rattle.sg_split.proofs.serving.play_for.Given as goal

-- the choices of the resources before
abbrev pub invariant-loop-r : goal.invariant-loop-r
invariant-loop-r l = IsPlayUpTo l.game l.columns l.code l.r
