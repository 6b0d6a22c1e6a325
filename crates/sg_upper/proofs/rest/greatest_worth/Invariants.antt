use Rattle.std.proofs.Common.{◌≡◌, ◌*◌, ◌^◌, pos, ◌≤ℤ◌, ◌-ℤ◌, ◌*ℤ◌, ℕ}
use Rattle.sg_model.specs.Games.{attacker}
use Rattle.sg_model.specs.Payoffs.{greatest_of}
use Rattle.sg_model.specs.Sums.{numbers, total}
use Rattle.sg_upper.proofs.rest.greatest_worth.Given as goal

-- the sum so far, of at most 2^86 each
abbrev pub invariant-loop-i : goal.invariant-loop-i
invariant-loop-i l = record {
  sum : l.worth ≡ total (λ (k : ℕ). (attacker l.game k).prior *ℤ greatest_of l.game k) (numbers l.i);
  low : (pos 0 -ℤ pos (l.i * 2 ^ 86)) ≤ℤ l.worth;
  high : l.worth ≤ℤ pos (l.i * 2 ^ 86);
}
