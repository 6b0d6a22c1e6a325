-- What a play or a target pays, in bounds.
use Rattle.std.proofs.Common.{◌≡◌, ◌∙◌, ℕ, ◌+◌, ◌*◌, ◌<◌, ◌^◌, ℤ, pos, ◌+ℤ◌, ◌-ℤ◌, ◌*ℤ◌, ◌≤ℤ◌, of_z, to_z, sym, subst, arith}
use Rattle.std.specs.Prelude.{FitsSigned}
use Rattle.std.specs.Int.{w128}
use Rattle.std.proofs.lemmas.Int.{ints, to_z-of_z}
use Rattle.sg_model.specs.Limits.{IsPay, IsWithin}
use Rattle.sg_model.proofs.Spans.{Spans, fits_span, spans_product}
use Rattle.sg_num.specs.Exact.{IsAtMost}

-- a product in the code of small numbers
pub record IsSmallProduct (x y : ℤ) (most : ℕ) (made : ℤ) : Type 0 where
  pub value : made ≡ x *ℤ y
  pub small : IsAtMost (pos most) made

pub small_fits : (m k : ℕ) (x y x' y' : ℤ) → m * k < 2 ^ 127 → x' ≡ x → y' ≡ y → Spans m x → Spans k y → FitsSigned w128 (x' *ℤ y')
small_fits m k x y x' y' lt e f a b = subst (FitsSigned w128) (sym (λ i. e i *ℤ f i)) (fits_span (m * k) (x *ℤ y) lt (spans_product m k x y a b))

pub small_is : (m k : ℕ) (x y x' y' : ℤ) → m * k < 2 ^ 127 → x' ≡ x → y' ≡ y → Spans m x → Spans k y → IsSmallProduct x y (m * k) (to_z w128 (of_z w128 (x' *ℤ y')))
small_is m k x y x' y' lt e f a b =
    let same : x' *ℤ y' ≡ x *ℤ y = (λ i. e i *ℤ f i) in
    let value : to_z w128 (of_z w128 (x' *ℤ y')) ≡ x *ℤ y = to_z-of_z w128 (x' *ℤ y') (small_fits m k x y x' y' lt e f a b) ∙ same in
    let p = spans_product m k x y a b in
    record { value = value; small = (omega (arith, ints, value, p.low), omega (arith, ints, value, p.high)) }

pub prior-spans : (z : ℤ) → pos 1 ≤ℤ z → z ≤ℤ pos (2 ^ 20) → Spans (2 ^ 20) z
prior-spans z low high = record { low = omega (arith, ints, low); high = high }

pub shifted-spans : (pay shift sum : ℤ) → IsPay pay → IsWithin (pos 1 -ℤ pos (2 ^ 30)) (pos (2 ^ 30 + 1)) shift → sum ≡ pay +ℤ shift → Spans (2 ^ 32) sum
shifted-spans pay shift sum p s e = record { low = omega (arith, ints, e, p.at_least, s.at_least); high = omega (arith, ints, e, p.at_most, s.at_most) }

pub apart-spans : (x y gap : ℤ) → IsPay x → IsPay y → gap ≡ x -ℤ y → Spans (2 ^ 31) gap
apart-spans x y gap p q e = record { low = omega (arith, ints, e, p.at_least, q.at_most); high = omega (arith, ints, e, p.at_most, q.at_least) }
