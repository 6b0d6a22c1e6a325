use Rattle.std.proofs.Common.{◌≡◌, ℕ, ◌+◌, ◌-◌, ◌*◌, ◌^◌, length, pos, ◌+ℤ◌, ◌-ℤ◌, ◌*ℤ◌, ◌≤ℤ◌}
use Rattle.sg_model.specs.Games.{attacker}
use Rattle.sg_model.specs.Payoffs.{greatest_of}
use Rattle.sg_model.specs.Sums.{numbers, numbers_from, total}
use Rattle.sg_check.proofs.bound.greatest_sum.Given as goal

-- the sum so far, and the types that are left
abbrev pub invariant-loop-l : goal.invariant-loop-l
invariant-loop-l s = record {
  whole : s.sum +ℤ total (λ (a : ℕ). (attacker s.game a).prior *ℤ greatest_of s.game a) (numbers_from (s.l + 1) (length s.game.types - s.l))
      ≡ total (λ (a : ℕ). (attacker s.game a).prior *ℤ greatest_of s.game a) (numbers (length s.game.types));
  low : (pos 0 -ℤ pos (s.l * 2 ^ 50)) ≤ℤ s.sum;
  high : s.sum ≤ℤ pos (s.l * 2 ^ 50);
}
