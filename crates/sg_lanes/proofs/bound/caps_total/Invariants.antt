use Rattle.std.proofs.Common.{◌≡◌, ℕ, ◌+◌, ◌-◌, ◌*◌, ◌^◌, pos, ◌+ℤ◌, ◌-ℤ◌, ◌*ℤ◌, ◌≤ℤ◌}
use Rattle.sg_model.specs.Sums.{total, numbers_from}
use Rattle.sg_model.specs.Games.{attacker}
use Rattle.sg_bounds.specs.Caps.{cap_of}
use Rattle.sg_lanes.proofs.bound.caps_total.Given as goal

abbrev pub invariant-loop-i : goal.invariant-loop-i
invariant-loop-i l = record {
  whole : l.sum +ℤ total (λ (t : ℕ). (attacker l.game t).prior *ℤ (cap_of l.caps t).v) (numbers_from (l.i + 1) (l.count - l.i)) ≡ total (λ (t : ℕ). (attacker l.game t).prior *ℤ (cap_of l.caps t).v) (numbers_from (l.n + 1) (l.count - l.n));
  low : (pos 0 -ℤ pos (l.i * 2 ^ 86)) ≤ℤ l.sum;
  high : l.sum ≤ℤ pos (l.i * 2 ^ 86);
}
