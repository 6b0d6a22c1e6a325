use Rattle.std.proofs.Common.{◌≡◌, ℕ, length, pos, take}
use Rattle.sg_model.specs.Limits.{IsCount}
use Rattle.sg_model.specs.Sums.{nth}
use Rattle.sg_plays_fact.specs.Weighing.{target_weight}
use Rattle.sg_plays_fact.proofs.weights.weigh.Given as goal

-- each weight by the marks so far
abbrev pub invariant-loop-mark : goal.invariant-loop-mark
invariant-loop-mark l = (t : ℕ) → IsCount 1 (length l.weights) t → nth l.weights t (pos 0) ≡ target_weight l.game l.fix l.stated.rho (take l.mark-index l.marks) t
