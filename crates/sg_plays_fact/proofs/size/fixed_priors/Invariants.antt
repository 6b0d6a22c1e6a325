use Rattle.std.proofs.Common.{◌≡◌, ℕ, ◌*◌, ◌^◌, take, pos, ◌≤ℤ◌}
use Rattle.sg_model.specs.Games.{attacker}
use Rattle.sg_model.specs.Sums.{total}
use Rattle.sg_bounds.specs.Regions.{fixed}
use Rattle.sg_plays_fact.proofs.size.fixed_priors.Given as goal

-- the sum of the priors so far
abbrev pub invariant-loop-i : goal.invariant-loop-i
invariant-loop-i l = (l.sum ≡ total (λ (p : ℕ × ℕ). (attacker l.game p.0).prior) (take l.i (fixed l.fix))) × (pos 0 ≤ℤ l.sum) × (l.sum ≤ℤ pos (l.i * 2 ^ 20))
