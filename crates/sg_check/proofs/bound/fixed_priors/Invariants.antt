use Rattle.std.proofs.Common.{◌≡◌, ℕ, ◌+◌, ◌-◌, ◌*◌, ◌^◌, pos, ◌+ℤ◌, ◌≤ℤ◌}
use Rattle.sg_model.specs.Games.{attacker}
use Rattle.sg_model.specs.Sums.{numbers, numbers_from, total}
use Rattle.sg_check.proofs.bound.fixed_priors.Given as goal

-- the sum so far, and the types that are left
abbrev pub invariant-loop-l : goal.invariant-loop-l
invariant-loop-l s = record {
  whole : s.sum +ℤ total (λ (a : ℕ). (attacker s.game a).prior) (numbers_from (s.l + 1) (s.fixed - s.l)) ≡ total (λ (a : ℕ). (attacker s.game a).prior) (numbers s.fixed);
  low : pos 0 ≤ℤ s.sum;
  high : s.sum ≤ℤ pos (s.l * 2 ^ 20);
}
