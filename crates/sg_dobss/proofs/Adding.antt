-- Costs and what is added to them fit 64 bits.
use Rattle.std.proofs.Common.{◌+◌, ◌*◌, ◌^◌, arith}
use Rattle.std.specs.Prelude.{ℤ, pos, ◌+ℤ◌, ◌*ℤ◌, FitsSigned}
use Rattle.std.specs.Int.{w64}
use Rattle.std.proofs.lemmas.Int.{ints}
use Rattle.sg_model.specs.Limits.{IsPay, IsWithin}
use Rattle.sg_model.proofs.Spans.{Spans, spans_product}
use Rattle.sg_num.specs.Exact.{IsAtMost}

module _ (cost prior shift pay : ℤ) (c : IsAtMost (pos (2 ^ 60)) cost) (p : IsWithin (pos 1) (pos (2 ^ 20)) prior) (s : IsAtMost (pos (2 ^ 30 + 1)) shift) (y : IsPay pay) where
  shifted-spans : Spans (2 ^ 31 + 1) (pay +ℤ shift)
  shifted-spans = let a = s.0 in let b = s.1 in record { low = omega (arith, ints, a, y.at_least); high = omega (arith, ints, b, y.at_most) }

  product-spans : Spans (2 ^ 20 * (2 ^ 31 + 1)) (prior *ℤ (pay +ℤ shift))
  product-spans = spans_product (2 ^ 20) (2 ^ 31 + 1) prior (pay +ℤ shift) (record { low = omega (arith, ints, p.at_least); high = p.at_most }) shifted-spans

  pub shifted-fits : FitsSigned w64 (pay +ℤ shift)
  shifted-fits = omega (arith, ints, shifted-spans.low, shifted-spans.high)

  pub product-fits : FitsSigned w64 (prior *ℤ (pay +ℤ shift))
  product-fits = omega (arith, ints, product-spans.low, product-spans.high)

  pub added-fits : FitsSigned w64 (cost +ℤ (prior *ℤ (pay +ℤ shift)))
  added-fits = let a = c.0 in let b = c.1 in omega (arith, ints, product-spans.low, product-spans.high, a, b)
