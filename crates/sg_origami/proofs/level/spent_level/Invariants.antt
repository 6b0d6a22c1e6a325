use Rattle.std.proofs.Common.{◌^◌, pos, ◌-ℤ◌, ◌≤ℤ◌}
use borrow.Author.Differences.{up}
use Rattle.sg_origami.proofs.Lags.{Lags}
use Rattle.sg_origami.proofs.level.spent_level.Given as goal

abbrev pub invariant-rise : goal.invariant-rise
invariant-rise l = record {
  lags : Lags l.rates l.have l.sums.multiples l.sums.weighted;
  low : pos 0 ≤ℤ l.sums.multiples;
  high : l.sums.multiples ≤ℤ pos (2 ^ 46);
  below : (pos 0 -ℤ pos (2 ^ 76)) ≤ℤ l.sums.weighted;
  above : l.sums.weighted ≤ℤ pos (2 ^ 76);
}

abbrev pub decreases-rise : goal.decreases-rise
decreases-rise l = up l.sums.multiples
