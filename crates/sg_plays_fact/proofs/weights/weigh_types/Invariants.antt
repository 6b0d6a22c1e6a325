use Rattle.std.proofs.Common.{◌≡◌, ℕ, length, take, pos, ◌*ℤ◌}
use Rattle.sg_model.specs.Limits.{IsCount}
use Rattle.sg_model.specs.Sums.{nth, total}
use Rattle.sg_bounds.specs.Coverage.{where_same}
use Rattle.sg_bounds.specs.Regions.{fixed}
use Rattle.sg_plays_fact.proofs.Weighed.{worth_gap}
use Rattle.sg_plays_fact.proofs.weights.weigh_types.Given as goal

-- each weight by the types so far
abbrev pub invariant-loop-i : goal.invariant-loop-i
invariant-loop-i l = (t : ℕ) → IsCount 1 (length l.weights) t → nth l.weights t (pos 0) ≡ l.rho *ℤ total (λ (p : ℕ × ℕ). where_same p.1 t (worth_gap l.game p)) (take l.i (fixed l.fix))
