use Rattle.std.proofs.Common.{arith}
use Rattle.std.proofs.lemmas.Nat.Gcd.{IsGcd-from_zero, IsGcd-from_mod}
use Rattle.sg_num.proofs.divisor.gcd.Goals as goal

pub euclid-preserved : goal.euclid-preserved
euclid-preserved c g h = c.euclid.invariant g (IsGcd-from_mod _ _ g h)

pub returns : goal.returns
returns c = c.euclid.invariant _ (IsGcd-from_zero _ _ (omega arith))
