use Rattle.std.proofs.Common.{ℕ}
use Rattle.std.specs.Int.{IsGcd}
use Rattle.sg_num.proofs.divisor.gcd.Given as goal

-- the pair that is left has the divisors of the pair that was given
abbrev pub invariant-euclid : goal.invariant-euclid
invariant-euclid l = (g : ℕ) → IsGcd l.last l.next g → IsGcd l.fn.a l.fn.b g

abbrev pub decreases-euclid : goal.decreases-euclid
decreases-euclid l = l.next
