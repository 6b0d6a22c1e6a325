use Rattle.std.proofs.Common.{◌≡◌, ◌+◌, ◌*◌, ◌^◌, pos, ◌≤ℤ◌, ◌-ℤ◌, ◌*ℤ◌, ℕ}
use Rattle.sg_model.specs.Games.{attacker}
use Rattle.sg_model.specs.Sums.{numbers_from, total}
use Rattle.sg_desk.specs.Bounding.{end_cap}
use Rattle.sg_desk.proofs.bounding.open_worth.Given as goal

-- the sum so far, of at most 2^54 each
abbrev pub invariant-loop-i : goal.invariant-loop-i
invariant-loop-i l = record {
  sum : l.worth ≡ total (λ (k : ℕ). (attacker l.game k).prior *ℤ end_cap l.game l.caps k) (numbers_from (l.n + 1) l.i);
  low : (pos 0 -ℤ pos (l.i * 2 ^ 54)) ≤ℤ l.worth;
  high : l.worth ≤ℤ pos (l.i * 2 ^ 54);
}
