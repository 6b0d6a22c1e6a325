-- Greatest common divisors, lowest terms and least common multiples, by computing.
use Rattle.std.proofs.Common.{◌≡◌, ◌≢◌, ℕ, zero, suc, ◌*◌, ◌/◌, ◌%◌, ◌<◌, Bool, false, List, [], ◌∷◌, ◌∙◌, ap, subst, refl, arith}
use Rattle.std.specs.List.{All}
use Rattle.std.specs.Int.{◌∣◌, IsGcd}
use Rattle.std.specs.Int.Signed.{lt_z}
use Rattle.std.specs.Prelude.{ℤ, pos, negsuc, ◌*ℤ◌, ◌≤ℤ◌, ◌<ℤ◌, unsigned_abs}
use Rattle.std.proofs.lemmas.Int.{ints}
use Rattle.std.proofs.lemmas.List.Elements.{All-cons, All-head, All-nil, All-tail}
use Rattle.std.proofs.lemmas.Nat.Gcd.{IsGcd-from_mod, IsGcd-from_zero, dvd_refl, dvd_trans}
use Rattle.std.proofs.Math.Nat.{mul-div_cancel', one-dvd}
use Rattle.sg_num.proofs.Divisors.{IsLcm-from_gcd, some_from_IsGcd}
use Rattle.sg_num.proofs.Ring.{var, ◌⊗◌, ring}
use Rattle.sg_num.specs.Multiples.{IsLcm}
use Rattle.sg_frac.specs.Fractions.{Fraction, IsReducedForm}
use Rattle.sg_frac.specs.Signed.{signed}
use Rattle.sg_frac.proofs.Reduced.{reduced_form, sign, some_factor}
use Rattle.sg_programs.specs.Points.{common_multiple, euclid, gcd_of, lowest_of, next_multiple}
use Rattle.sg_programs.specs.PointLaws.{CommonDivisorIsGreatest, CommonMultipleIsLeast}

-- ---- divisors

euclid-gcd : (n a b : ℕ) → b < n → IsGcd a b (euclid n a b)
euclid-gcd zero a b h = absurd (omega arith)
euclid-gcd (suc n) a zero h = IsGcd-from_zero a 0 refl
euclid-gcd (suc n) a (suc b) h = let small : a % suc b < n = omega arith in IsGcd-from_mod a (suc b) (euclid n (suc b) (a % suc b)) (euclid-gcd n (suc b) (a % suc b) small)

pub common_divisor : CommonDivisorIsGreatest
common_divisor a b = euclid-gcd (suc b) a b (omega arith)

not_below : (x : ℕ) → lt_z (pos x) (pos 0) ≡ false
not_below x = grind (arith, ints)

both_above : (x y : ℕ) → sign (pos x) (pos y) ≡ false
both_above x y = rw (not_below x, not_below y) refl

-- two numbers above 0 in lowest terms
pub lowest-form : (n d : ℤ) → pos 0 <ℤ n → pos 0 <ℤ d → IsReducedForm n d (lowest_of n d)
lowest-form (pos x) (pos y) h k =
    let other : pos y ≢ pos 0 = λ e. absurd (omega (arith, ints, e, k)) in
    subst (λ (b : Bool). IsReducedForm (pos x) (pos y) (record { num = signed b (x / gcd_of x y); den = pos (y / gcd_of x y) })) (both_above x y) (reduced_form (pos x) (pos y) (gcd_of x y) other (common_divisor x y))
lowest-form (pos x) (negsuc y) h k = absurd (omega (arith, ints, k))
lowest-form (negsuc x) d h k = absurd (omega (arith, ints, h))

-- ---- multiples

product-some : (a b : ℕ) → 0 < a → 0 < b → 0 < a * b
product-some zero b h k = absurd (omega arith)
product-some (suc a) zero h k = absurd (omega arith)
product-some (suc a) (suc b) h k = omega arith

pub den-some : (d : ℤ) → pos 1 ≤ℤ d → 0 < unsigned_abs d
den-some (pos d) h = omega (arith, ints, h)
den-some (negsuc d) h = absurd (omega (arith, ints, h))

next-lcm : (m : ℕ) (f : Fraction) → pos 1 ≤ℤ f.den → IsLcm m (unsigned_abs f.den) (next_multiple m f)
next-lcm m f h =
    let d : ℕ = unsigned_abs f.den in
    let g = common_divisor m d in
    IsLcm-from_gcd m d (gcd_of m d) g (some_from_IsGcd m d (gcd_of m d) g (den-some f.den h))

pub next-some : (m : ℕ) (f : Fraction) → 0 < m → pos 1 ≤ℤ f.den → 0 < next_multiple m f
next-some m f some h =
    let d : ℕ = unsigned_abs f.den in
    let g = common_divisor m d in
    product-some (m / gcd_of m d) d (some_factor (gcd_of m d) (m / gcd_of m d) m (mul-div_cancel' (gcd_of m d) g.0) some) (den-some f.den h)

abbrev Divides : ℕ → Fraction → Type 0
Divides c f = unsigned_abs f.den ∣ c

record IsMultipleFrom (m : ℕ) (fs : List Fraction) (whole : ℕ) : Type 0 where
  above : 0 < whole
  first : m ∣ whole
  each : All (Divides whole) fs
  least : (c : ℕ) → m ∣ c → All (Divides c) fs → whole ∣ c

abbrev IsSome : Fraction → Type 0
IsSome f = pos 1 ≤ℤ f.den

from : (m : ℕ) (fs : List Fraction) → 0 < m → All IsSome fs → IsMultipleFrom m fs (common_multiple m fs)
from m [] some all = record { above = some; first = dvd_refl m; each = All-nil (Divides m); least = λ c p q. p }
from m (f ∷ fs) some all =
    let h = All-head IsSome f fs all in
    let lcm = next-lcm m f h in
    let n : ℕ = next_multiple m f in
    let rest = from n fs (next-some m f some h) (All-tail IsSome f fs all) in
    record {
      above = rest.above;
      first = dvd_trans m lcm.0 rest.first;
      each = All-cons (Divides (common_multiple n fs)) f fs (dvd_trans (unsigned_abs f.den) lcm.1 rest.first) rest.each;
      least = λ c p q. rest.least c (lcm.2 c p (All-head (Divides c) f fs q)) (All-tail (Divides c) f fs q);
    }

one-divides : (c : ℕ) → 1 ∣ c
one-divides c = one-dvd c

pub common_multiple_is_least : CommonMultipleIsLeast
common_multiple_is_least fs all = let m = from 1 fs (omega arith) all in record { above = m.above; multiple = m.each; least = λ c q. m.least c (one-divides c) q }

-- a weight x / k over a multiple m of k is x * (m / k)
pub whole_share : (x own first : ℤ) (k q m : ℕ) → x *ℤ own ≡ first *ℤ pos k → k * q ≡ m → (x *ℤ pos q) *ℤ own ≡ pos m *ℤ first
whole_share x own first k q m e is =
    let whole : pos k *ℤ pos q ≡ pos m = omega (arith, ints, is) in
    ring (x ∷ pos q ∷ own ∷ []) ((var 0 ⊗ var 1) ⊗ var 2) ((var 0 ⊗ var 2) ⊗ var 1) tt
    ∙ ap (λ (z : ℤ). z *ℤ pos q) e
    ∙ ring (first ∷ pos k ∷ pos q ∷ []) ((var 0 ⊗ var 1) ⊗ var 2) ((var 1 ⊗ var 2) ⊗ var 0) tt
    ∙ ap (λ (z : ℤ). z *ℤ first) whole
