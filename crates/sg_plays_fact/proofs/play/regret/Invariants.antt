use Rattle.std.proofs.Common.{◌≡◌, take}
use Rattle.sg_bounds.specs.Facts.{regret}
use Rattle.sg_plays_fact.proofs.play.regret.Given as goal

-- the regret over the marks so far
abbrev pub invariant-loop-mark : goal.invariant-loop-mark
invariant-loop-mark l = l.sum ≡ regret l.game l.fix (take l.mark-index l.marks) l.code
