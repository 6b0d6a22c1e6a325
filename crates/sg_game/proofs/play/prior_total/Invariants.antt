use Rattle.std.proofs.Common.{◌≡◌, ◌*◌, ◌^◌, pos, ◌≤ℤ◌, take}
use Rattle.sg_model.specs.Games.{Attacker}
use Rattle.sg_model.specs.Sums.{total}
use Rattle.sg_game.proofs.play.prior_total.Given as goal

-- the sum so far, between the number of types and 2^20 for each
abbrev pub invariant-loop-l : goal.invariant-loop-l
invariant-loop-l l = record {
  sum : l.total ≡ total (λ (x : Attacker). x.prior) (take l.l l.game.types);
  low : pos l.l ≤ℤ l.total;
  high : l.total ≤ℤ pos (l.l * 2 ^ 20);
}
