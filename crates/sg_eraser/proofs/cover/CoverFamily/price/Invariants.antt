use Rattle.std.proofs.Common.{◌≡◌}
use Rattle.sg_eraser.proofs.Answered.{answer_from}
use Rattle.sg_eraser.proofs.cover.CoverFamily.price.Given as goal

-- what is answered from the start is answered from here on
abbrev pub invariant-loop-k : goal.invariant-loop-k
invariant-loop-k l = answer_from l.self l.y l.rho l.budget 0 ≡ answer_from l.self l.y l.rho l.budget l.k
