-- Fractions whose parts have a common divisor.
use Rattle.std.proofs.Common.{◌≡◌, ℕ, zero, suc, ◌%◌, ◌≤◌, Bool, true, false, ◌&&◌, refl, sym, subst, ◌∙◌, arith, inl, inr}
use Rattle.std.specs.Prelude.{◌==◌, ◌||◌, nat_le}
use Rattle.std.specs.Int.{◌∣◌, IsGcd}
use Rattle.std.proofs.lemmas.Bool.{cases_lt}
use Rattle.std.proofs.lemmas.Bool.Decides.{nat_tests}
use Rattle.std.proofs.lemmas.Nat.Gcd.{dvd_of_mod-eq-zero, mod-eq-zero_of_dvd, le_of_dvd}
use Rattle.std.specs.Prelude.{ℤ, pos, negsuc, ◌≤ℤ◌, unsigned_abs}
use Rattle.std.proofs.Math.Nat.{one-dvd}
use Rattle.std.proofs.lemmas.Nat.Gcd.{dvd_refl}
use Rattle.std.proofs.lemmas.Int.{ints}
use Rattle.sg_frac.specs.Fractions.{Fraction, IsReduced}
use Rattle.sg_cert.specs.LineReading.{shares}

or_right : (x y : Bool) → y ≡ true → (x || y) ≡ true
or_right true y e = refl
or_right false y e = e

shares_here : (a b k : ℕ) → 1 ≤ k → suc k ∣ a → suc k ∣ b → shares a b (suc k) ≡ true
shares_here a b k low p q =
    let x : nat_le 1 k ≡ true = grind (arith, nat_tests) in
    rw (x, mod-eq-zero_of_dvd (suc k) p, mod-eq-zero_of_dvd (suc k) q) refl

-- a divisor of both from 2 to k is found
pub shares_some : (a b k d : ℕ) → 2 ≤ d → d ≤ k → d ∣ a → d ∣ b → shares a b k ≡ true
shares_some a b zero d low high p q = absurd (omega arith)
shares_some a b (suc k) d low high p q =
    elim (cases_lt k d) [
      | inl lt ↦ let e : d ≡ suc k = omega arith in shares_here a b k (omega arith) (subst (λ x. x ∣ a) e p) (subst (λ x. x ∣ b) e q)
      | inr le ↦ or_right (nat_le 1 k && (a % suc k == 0 && b % suc k == 0)) (shares a b k) (shares_some a b k d low le p q)
    ]

zero_test : (n : ℕ) → (n == 0) ≡ true → n ≡ 0
zero_test n e = grind (arith, nat_tests)

one_test : (k : ℕ) → nat_le 1 k ≡ true → 1 ≤ k
one_test k e = grind (arith, nat_tests)

found_none : (a b k : ℕ) (x y z : Bool) → IsGcd a b 1 → nat_le 1 k ≡ x → (a % suc k == 0) ≡ y → (b % suc k == 0) ≡ z → (x && (y && z)) ≡ false
found_none a b k false y z h e f g = refl
found_none a b k true false z h e f g = refl
found_none a b k true true false h e f g = refl
found_none a b k true true true h e f g =
    let p : suc k ∣ 1 = h.2 (suc k) (dvd_of_mod-eq-zero (suc k) (zero_test (a % suc k) f)) (dvd_of_mod-eq-zero (suc k) (zero_test (b % suc k) g)) in
    let le : suc k ≤ 1 = le_of_dvd (omega arith) p in
    let low : 1 ≤ k = one_test k e in
    absurd (omega (arith, le, low))

-- none is found where 1 is the greatest
pub shares_none : (a b k : ℕ) → IsGcd a b 1 → shares a b k ≡ false
shares_none a b zero h = refl
shares_none a b (suc k) h = rw (found_none a b k (nat_le 1 k) (a % suc k == 0) (b % suc k == 0) h refl refl refl) (shares_none a b k h)

-- ---- a fraction whose parts are kept

pub coprime_of_shares : (a b : ℕ) → 1 ≤ b → shares a b b ≡ false → IsGcd a b 1
coprime_of_shares a b low e = (one-dvd a, one-dvd b, λ d p q. only d p q)
  where
    only : (d : ℕ) → d ∣ a → d ∣ b → d ∣ 1
    only zero p q = absurd (let z = mod-eq-zero_of_dvd 0 q in omega (arith, z))
    only (suc zero) p q = dvd_refl 1
    only (suc (suc d)) p q = absurd (let w : true ≡ false = sym (shares_some a b b (suc (suc d)) (omega arith) (le_of_dvd (omega arith) q) p q) ∙ e in cc)

some_abs : (d : ℤ) → pos 1 ≤ℤ d → 1 ≤ unsigned_abs d
some_abs (pos d) h = omega (arith, ints, h)
some_abs (negsuc d) h = absurd (omega (arith, ints, h))

abbrev pub parts : ℤ → ℤ → Fraction
parts num den = record { num = num; den = den }

pub reduced_from_shares : (n d : ℤ) → pos 1 ≤ℤ d → shares (unsigned_abs n) (unsigned_abs d) (unsigned_abs d) ≡ false → IsReduced (parts n d)
reduced_from_shares n d low e = record { positive = low; coprime = coprime_of_shares (unsigned_abs n) (unsigned_abs d) (some_abs d low) e }

pub shares_from_reduced : (f : Fraction) → IsReduced f → shares (unsigned_abs f.num) (unsigned_abs f.den) (unsigned_abs f.den) ≡ false
shares_from_reduced f h = shares_none (unsigned_abs f.num) (unsigned_abs f.den) (unsigned_abs f.den) h.coprime
