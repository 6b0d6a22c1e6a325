use Rattle.std.proofs.Common.{◌≡◌, ◌*◌, ◌^◌, pos, ◌≤ℤ◌, ℕ}
use Rattle.sg_model.specs.Games.{attacker}
use Rattle.sg_model.specs.Sums.{numbers_from, total}
use Rattle.sg_desk.proofs.measures.priors_from.Given as goal

-- the sum so far, of at most 2^20 each
abbrev pub invariant-loop-i : goal.invariant-loop-i
invariant-loop-i l = record {
  sum : l.priors ≡ total (λ (k : ℕ). (attacker l.game k).prior) (numbers_from l.from l.i);
  low : pos 0 ≤ℤ l.priors;
  high : l.priors ≤ℤ pos (l.i * 2 ^ 20);
}
