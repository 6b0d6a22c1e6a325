use Rattle.sg_split.proofs.Served.{HoldNot}
use Rattle.sg_split.proofs.serving.choice_to.Given as goal

-- no choice before holds the target
abbrev pub invariant-loop-j : goal.invariant-loop-j
invariant-loop-j l = HoldNot l.game l.r l.t l.j
