use Rattle.std.proofs.Common.{◌≡◌, drop}
use Rattle.sg_walk.specs.Sums.{absolute_sum, absolute_sum_from}
use Rattle.sg_walk.proofs.summing.absolute_sum.Given as goal

-- the sum of all is the sum from here on
abbrev pub invariant-loop-k : goal.invariant-loop-k
invariant-loop-k l = absolute_sum l.weights ≡ absolute_sum_from l.acc (drop l.k l.weights)
