-- Reading a fraction: its greatest common divisor, and the fraction that is made of its parts.
use Rattle.std.proofs.Common.{◌≡◌, ℕ, zero, suc, ◌≤◌, true, false, not, refl, arith, inl, inr}
use Rattle.std.specs.Prelude.{◌==◌}
use Rattle.std.specs.Int.{◌∣◌, IsGcd}
use Rattle.std.proofs.lemmas.Bool.{lt-ltb}
use Rattle.std.proofs.lemmas.Bool.Decides.{nat_tests}
use Rattle.std.proofs.lemmas.Nat.Gcd.{mod-eq-zero_of_dvd, le_of_dvd}
use Rattle.std.specs.Prelude.{ℤ, pos, negsuc, ◌≤ℤ◌, unsigned_abs}
use Rattle.std.proofs.Common.{◌≢◌, ◌⊎◌}
use Rattle.std.proofs.lemmas.Int.{ints}
use Rattle.sg_frac.specs.Fractions.{Fraction, IsReducedForm, IsReducedFormWide}
use Rattle.sg_num.specs.Exact.{fits}
use Rattle.sg_frac.proofs.Reduced.{reduced_form-unique}
use Rattle.std.specs.Prelude.{FitsSigned, Ok, Err}
use Rattle.std.specs.Int.{w128}
use Rattle.sg_cert.specs.LineReading.{shares, reduced_of}
use Rattle.sg_cert.proofs.Common.{shares_some, shares_none, parts, reduced_from_shares}

-- a test for a common divisor by the greatest one
pub shares_gcd : (a b g : ℕ) → 1 ≤ b → IsGcd a b g → shares a b b ≡ not (g == 1)
shares_gcd a b zero low h = absurd (none h.1)
  where
    none : 0 ∣ b → ⊥
    none p = let e = mod-eq-zero_of_dvd 0 p in omega (arith, e)
shares_gcd a b (suc zero) low h = shares_none a b b h
shares_gcd a b (suc (suc g)) low h =
    let t : (suc (suc g) == 1) ≡ false = grind (arith, nat_tests) in
    rw t (shares_some a b b (suc (suc g)) (omega arith) (le_of_dvd (omega arith) h.1) h.0 h.1)

same_fraction : (n d : ℤ) (f : Fraction) → pos 1 ≤ℤ d → shares (unsigned_abs n) (unsigned_abs d) (unsigned_abs d) ≡ false → IsReducedForm n d f → f ≡ parts n d
same_fraction n d f low e h =
    let other : d ≢ pos 0 = λ z. absurd (omega (arith, ints, z, low)) in
    reduced_form-unique n d f (parts n d) other h (record { reduced = reduced_from_shares n d low e; equal = refl })

never_wide : (n d : ℤ) → pos 1 ≤ℤ d → fits n ≡ true → fits d ≡ true → shares (unsigned_abs n) (unsigned_abs d) (unsigned_abs d) ≡ false
    → (d ≡ pos 0) ⊎ IsReducedFormWide n d → ⊥
never_wide n d low a b e (inl z) = absurd (omega (arith, ints, z, low))
never_wide n d low a b e (inr w) = let same = same_fraction n d w.0 low e w.1.0 in w.1.1 (rw same (a, b))

-- ---- what the code answers

fits_signed : (z : ℤ) → FitsSigned w128 z → fits z ≡ true
fits_signed (pos n) h = lt-ltb _ _ h.sfits
fits_signed (negsuc n) h = lt-ltb _ _ h.sfits

kept : (n d : ℤ) (a b : ℕ) → a ≡ unsigned_abs n → b ≡ unsigned_abs d → shares a b b ≡ false → shares (unsigned_abs n) (unsigned_abs d) (unsigned_abs d) ≡ false
kept n d a b u v e = rw (u, v) at e

pub reduced_some : (n d : ℤ) (a b : ℕ) (f : Fraction) → a ≡ unsigned_abs n → b ≡ unsigned_abs d → pos 1 ≤ℤ d → shares a b b ≡ false → IsReducedForm n d f → Ok f ≡ reduced_of n d
reduced_some n d a b f u v low e h = let k = kept n d a b u v e in rw (k, same_fraction n d f low k h) refl

pub reduced_none : (n d : ℤ) (a b : ℕ) → a ≡ unsigned_abs n → b ≡ unsigned_abs d → pos 1 ≤ℤ d → FitsSigned w128 n → FitsSigned w128 d → shares a b b ≡ false
    → (d ≡ pos 0) ⊎ IsReducedFormWide n d → Err 6 ≡ reduced_of n d
reduced_none n d a b u v low p q e w = absurd (never_wide n d low (fits_signed n p) (fits_signed d q) (kept n d a b u v e) w)
