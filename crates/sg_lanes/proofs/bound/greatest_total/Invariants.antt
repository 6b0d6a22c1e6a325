use Rattle.std.proofs.Common.{◌≡◌, ℕ, ◌+◌, ◌-◌, ◌*◌, ◌^◌, pos, ◌+ℤ◌, ◌-ℤ◌, ◌*ℤ◌, ◌≤ℤ◌}
use Rattle.sg_model.specs.Sums.{total, numbers, numbers_from}
use Rattle.sg_model.specs.Games.{attacker}
use Rattle.sg_model.specs.Payoffs.{greatest_of}
use Rattle.sg_lanes.proofs.bound.greatest_total.Given as goal

-- the sum so far, and that of the rest, is the whole; each term is small
abbrev pub invariant-loop-i : goal.invariant-loop-i
invariant-loop-i l = record {
  whole : l.sum +ℤ total (λ (t : ℕ). (attacker l.game t).prior *ℤ greatest_of l.game t) (numbers_from (l.i + 1) (l.count - l.i)) ≡ total (λ (t : ℕ). (attacker l.game t).prior *ℤ greatest_of l.game t) (numbers l.count);
  low : (pos 0 -ℤ pos (l.i * 2 ^ 86)) ≤ℤ l.sum;
  high : l.sum ≤ℤ pos (l.i * 2 ^ 86);
}
