use Rattle.std.proofs.Common.{◌≡◌, ℕ, ◌<◌, length, get_or, pos}
use Rattle.sg_linear.specs.Sums.{unit}
use Rattle.sg_lp.proofs.pooled.write_unit.Given as goal

abbrev pub invariant-loop-j : goal.invariant-loop-j
invariant-loop-j l = (length l.places ≡ length l.initial.places) × ((k : ℕ) → k < l.j → get_or l.places k (pos 0) ≡ unit l.i k)
