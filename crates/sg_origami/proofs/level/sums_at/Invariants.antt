use Rattle.std.proofs.Common.{◌≡◌, ◌^◌, ◌*◌, drop, pos, ◌-ℤ◌, ◌≤ℤ◌, ◌+ℤ◌}
use Rattle.std.specs.List.{filter}
use Rattle.sg_model.specs.Sums.{total}
use Rattle.sg_origami.specs.Rates.{is_above, multiple_of, weighted_of}
use Rattle.sg_origami.proofs.level.sums_at.Given as goal

-- the sums so far and those of what is left
abbrev pub invariant-loop-rate : goal.invariant-loop-rate
invariant-loop-rate l = record {
  slopes : total multiple_of (filter (is_above l.level.num l.level.den) l.rates) ≡ l.multiples +ℤ total multiple_of (filter (is_above l.level.num l.level.den) (drop l.rate-index l.rates));
  heights : total weighted_of (filter (is_above l.level.num l.level.den) l.rates) ≡ l.weights +ℤ total weighted_of (filter (is_above l.level.num l.level.den) (drop l.rate-index l.rates));
  low : pos 0 ≤ℤ l.multiples;
  high : l.multiples ≤ℤ pos (2 ^ 32 * l.rate-index);
  below : (pos 0 -ℤ pos (2 ^ 62 * l.rate-index)) ≤ℤ l.weights;
  above : l.weights ≤ℤ pos (2 ^ 62 * l.rate-index);
}
