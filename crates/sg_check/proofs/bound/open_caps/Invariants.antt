use Rattle.std.proofs.Common.{◌≡◌, ℕ, ◌+◌, ◌-◌, ◌*◌, ◌^◌, length, pos, ◌+ℤ◌, ◌-ℤ◌, ◌*ℤ◌, ◌≤ℤ◌}
use Rattle.sg_model.specs.Games.{attacker}
use Rattle.sg_model.specs.Sums.{numbers_from, total}
use Rattle.sg_bounds.specs.Caps.{cap_of}
use Rattle.sg_check.proofs.bound.open_caps.Given as goal

-- the sum so far, and the types that are left
abbrev pub invariant-loop-l : goal.invariant-loop-l
invariant-loop-l s = record {
  whole : s.sum +ℤ total (λ (a : ℕ). (attacker s.game a).prior *ℤ (cap_of s.report.caps a).v) (numbers_from (s.l + 1) (length s.game.types - s.l))
      ≡ total (λ (a : ℕ). (attacker s.game a).prior *ℤ (cap_of s.report.caps a).v) (numbers_from (s.fn.fixed + 1) (length s.game.types - s.fn.fixed));
  low : (pos 0 -ℤ pos ((s.l - s.fn.fixed) * 2 ^ 83)) ≤ℤ s.sum;
  high : s.sum ≤ℤ pos ((s.l - s.fn.fixed) * 2 ^ 83);
}
