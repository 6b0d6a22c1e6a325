use Rattle.std.proofs.Common.{◌≡◌, ◌+◌, ◌*◌, ◌^◌, pos, ◌≤ℤ◌, ◌-ℤ◌, ◌*ℤ◌, ℕ}
use Rattle.sg_model.specs.Games.{attacker}
use Rattle.sg_model.specs.Sums.{numbers_from, total}
use Rattle.sg_bounds.specs.Caps.{cap_of}
use Rattle.sg_upper.proofs.rest.open_worth.Given as goal

-- the sum so far, of at most 2^86 each
abbrev pub invariant-loop-i : goal.invariant-loop-i
invariant-loop-i l = record {
  sum : l.worth ≡ total (λ (k : ℕ). (attacker l.game k).prior *ℤ (cap_of l.caps k).v) (numbers_from (l.n + 1) l.i);
  low : (pos 0 -ℤ pos (l.i * 2 ^ 86)) ≤ℤ l.worth;
  high : l.worth ≤ℤ pos (l.i * 2 ^ 86);
}
