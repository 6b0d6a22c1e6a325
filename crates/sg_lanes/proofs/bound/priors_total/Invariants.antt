use Rattle.std.proofs.Common.{◌≡◌, ℕ, ◌+◌, ◌-◌, ◌*◌, ◌^◌, pos, ◌+ℤ◌, ◌≤ℤ◌}
use Rattle.sg_model.specs.Sums.{total, numbers, numbers_from}
use Rattle.sg_model.specs.Games.{attacker}
use Rattle.sg_lanes.proofs.bound.priors_total.Given as goal

abbrev pub invariant-loop-i : goal.invariant-loop-i
invariant-loop-i l = record {
  whole : l.sum +ℤ total (λ (t : ℕ). (attacker l.game t).prior) (numbers_from (l.i + 1) (l.n - l.i)) ≡ total (λ (t : ℕ). (attacker l.game t).prior) (numbers l.n);
  low : pos 0 ≤ℤ l.sum;
  high : l.sum ≤ℤ pos (l.i * 2 ^ 20);
}
