-- A quotient rounded up.
use Rattle.std.proofs.Common.{◌≡◌, ◌⊎◌, ℕ, zero, suc, ◌+◌, ◌-◌, ◌*◌, ◌/◌, ◌%◌, ◌≤◌, ◌<◌, true, false, ℤ, pos, negsuc, ◌+ℤ◌, ◌-ℤ◌, ◌*ℤ◌, ◌≤ℤ◌, int_lt, int_div, sym, ◌∙◌, ap, subst, refl, arith, ⊎_elim, mod-lt, div-add-mod'}
use Rattle.std.specs.Int.{int_div_euclid}
use Rattle.std.proofs.lemmas.Int.{ints}
use Rattle.std.proofs.lemmas.Bool.{cases_Bool}
use Rattle.std.proofs.Math.Nat.{add-div_right}
use Rattle.sg_model.proofs.Ints.{v, n, plus, times, same_by, mul-le}

-- the next number below, divided, and one more
pub rounded-same : (m d : ℤ) → pos 1 ≤ℤ m → pos 1 ≤ℤ d → (int_div_euclid (m -ℤ pos 1) d +ℤ pos 1) ≡ int_div (m +ℤ (d -ℤ pos 1)) d
rounded-same (negsuc a) d low high = absurd (omega (arith, ints, low))
rounded-same (pos zero) d low high = absurd (omega (arith, ints, low))
rounded-same (pos (suc a)) (negsuc k) low high = absurd (omega (arith, ints, high))
rounded-same (pos (suc a)) (pos zero) low high = absurd (omega (arith, ints, high))
rounded-same (pos (suc a)) (pos (suc k)) low high =
    let x : pos (suc a) -ℤ pos 1 ≡ pos a = omega (arith, ints) in
    let y : pos (suc a) +ℤ (pos (suc k) -ℤ pos 1) ≡ pos (a + suc k) = omega (arith, ints) in
    let e = add-div_right a {k = suc k} (omega arith) in
    ap (λ (z : ℤ). int_div_euclid z (pos (suc k)) +ℤ pos 1) x
    ∙ omega (arith, ints, e)
    ∙ sym (ap (λ (z : ℤ). int_div z (pos (suc k))) y)

-- it is at least 1, and no more than a whole number whose product with the divisor reaches the number
pub rounded-least : (m d q : ℤ) → pos 1 ≤ℤ m → pos 1 ≤ℤ d → m ≤ℤ (q *ℤ d) → (int_div_euclid (m -ℤ pos 1) d +ℤ pos 1) ≤ℤ q
rounded-least (negsuc a) d q low high h = absurd (omega (arith, ints, low))
rounded-least (pos zero) d q low high h = absurd (omega (arith, ints, low))
rounded-least (pos (suc a)) (negsuc k) q low high h = absurd (omega (arith, ints, high))
rounded-least (pos (suc a)) (pos zero) q low high h = absurd (omega (arith, ints, high))
rounded-least (pos (suc a)) (pos (suc k)) q low high h =
    let x : pos (suc a) -ℤ pos 1 ≡ pos a = omega (arith, ints) in
    subst (λ (z : ℤ). (int_div_euclid z (pos (suc k)) +ℤ pos 1) ≤ℤ q) (sym x) (below (a / suc k) (div-add-mod' a (suc k)))
  where
    below : (t : ℕ) → t * suc k + a % suc k ≡ a → (pos t +ℤ pos 1) ≤ℤ q
    below t e = ⊎_elim (λ more. absurd
        (let up = mul-le q (pos t) (pos (suc k)) (omega (arith, ints, more)) (omega (arith, ints)) in
        let c : pos t *ℤ pos (suc k) ≡ pos (t * suc k) = refl in
        omega (arith, ints, e, c, up, h)))
        (λ le. omega (arith, ints, le))
        (cases_Bool (int_lt q (pos t +ℤ pos 1)))
