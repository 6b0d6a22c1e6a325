-- Products and sums within 128 bits.
use Rattle.std.proofs.Common.{◌≡◌, ◌∙◌, ◌-◌, ◌^◌, ℤ, pos, ◌-ℤ◌, ◌*ℤ◌, ◌≤ℤ◌, of_z, to_z, sym, refl, arith}
use Rattle.std.specs.Prelude.{FitsSigned, IsTrue, ◌↔◌, int_le}
use Rattle.std.specs.Int.{w128}
use Rattle.std.proofs.lemmas.Int.{ints, to_z-of_z}
use Rattle.sg_model.proofs.Ints.{mul-le, product_nonneg}
use Rattle.sg_model.proofs.Spans.{product-within}
use Rattle.sg_num.proofs.Steps.{FitsSigned-from_fits}
use Rattle.sg_num.specs.Exact.{Fits}

-- the greatest number of 128 bits
abbrev pub top : ℤ
top = pos (2 ^ 127 - 1)

pub fits_between : (z : ℤ) → (pos 0 -ℤ top) ≤ℤ z → z ≤ℤ top → FitsSigned w128 z
fits_between z low high = omega (arith, ints, low, high)

pub top_from_Fits : (z : ℤ) → Fits z → z ≤ℤ top
top_from_Fits z h = let f = FitsSigned-from_fits z h in omega (arith, ints, f)

-- a product in the code, of numbers read as they are
pub record IsProduct (w d m made : ℤ) : Type 0 where
  pub value : made ≡ w *ℤ d
  pub low : (pos 0 -ℤ (w *ℤ m)) ≤ℤ made
  pub high : made ≤ℤ (w *ℤ m)

pub product_fits : (w d m w' d' : ℤ) → w' ≡ w → d' ≡ d → pos 0 ≤ℤ w → (pos 0 -ℤ m) ≤ℤ d → d ≤ℤ m → (w *ℤ m) ≤ℤ top → FitsSigned w128 (w' *ℤ d')
product_fits w d m w' d' e f h low high most =
    let p = product-within w m d h (record { low = low; high = high }) in
    rw (e, f) (fits_between (w *ℤ d) (omega (arith, ints, p.low, most)) (omega (arith, ints, p.high, most)))

pub product_is : (w d m w' d' : ℤ) → w' ≡ w → d' ≡ d → pos 0 ≤ℤ w → (pos 0 -ℤ m) ≤ℤ d → d ≤ℤ m → (w *ℤ m) ≤ℤ top
    → IsProduct w d m (to_z w128 (of_z w128 (w' *ℤ d')))
product_is w d m w' d' e f h low high most =
    let p = product-within w m d h (record { low = low; high = high }) in
    let fit = product_fits w d m w' d' e f h low high most in
    let same : to_z w128 (of_z w128 (w' *ℤ d')) ≡ w *ℤ d = to_z-of_z w128 (w' *ℤ d') fit ∙ (rw (e, f) refl) in
    record { value = same; low = omega (arith, ints, p.low, same); high = omega (arith, ints, p.high, same) }

-- the same where d is not negative
pub record IsShare (w d m made : ℤ) : Type 0 where
  pub value : made ≡ w *ℤ d
  pub low : pos 0 ≤ℤ made
  pub high : made ≤ℤ (w *ℤ m)

pub share_is : (w d m w' d' : ℤ) → w' ≡ w → d' ≡ d → pos 0 ≤ℤ w → pos 0 ≤ℤ d → d ≤ℤ m → (w *ℤ m) ≤ℤ top → IsShare w d m (to_z w128 (of_z w128 (w' *ℤ d')))
share_is w d m w' d' e f h low high most =
    let p = product_is w d m w' d' e f h (omega (arith, ints, low, high)) high most in
    record { value = p.value; low = omega (arith, ints, p.value, product_nonneg w d h low); high = p.high }

-- within a fixed number of bits
pub few_product : (w d : ℤ) → pos 1 ≤ℤ w → w ≤ℤ pos (2 ^ 20) → pos 1 ≤ℤ d → d ≤ℤ pos (2 ^ 32) → (w *ℤ d) ≤ℤ top
few_product w d a b c e =
    let p = mul-le w (pos (2 ^ 20)) d b (omega (arith, ints)) in
    omega (arith, ints, p)

-- a comparison in the code, of numbers read as they are
pub le_z-is : (x y made other : ℤ) → made ≡ x → other ≡ y → IsTrue (int_le made other) ↔ (x ≤ℤ y)
le_z-is x y made other e f = ((λ h. omega (arith, ints, e, f, h)), λ h. let k : made ≤ℤ other = omega (arith, ints, e, f, h) in sym (omega (arith, ints, k)))
