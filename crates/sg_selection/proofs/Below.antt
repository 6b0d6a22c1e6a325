-- How fractions stand to one another, where their denominators are at least 1.
use Rattle.std.proofs.Common.{◌≡◌, ◌∙◌, sym, ap, arith, ℤ, pos, ◌*ℤ◌, ◌≤ℤ◌, ◌<ℤ◌}
use Rattle.std.proofs.lemmas.Int.{ints, by_lt_z}
use Rattle.sg_model.proofs.Ints.{v, times, same_by, le_from, lt_from, mul-le, mul-lt}
use Rattle.sg_bounds.proofs.Caps.{one_le_product}
use Rattle.sg_frac.specs.Fractions.{Fraction, IsReducedForm}
use Rattle.sg_frac.specs.Order.{IsBelow}

-- none is below itself
pub never-below : (f : Fraction) → ¬ (IsBelow f f)
never-below f h = omega (arith, ints, h)

-- what is no more than g is below what g is below
pub below-chain : (b g f : Fraction) → pos 1 ≤ℤ b.den → pos 1 ≤ℤ g.den → pos 1 ≤ℤ f.den → ¬ (IsBelow g b) → IsBelow g f → IsBelow b f
below-chain b g f pb pg pf no_more below =
    by_lt_z (b.num *ℤ f.den) (f.num *ℤ b.den) (λ h. h)
    (λ other. absurd (by_lt_z (g.num *ℤ b.den) (b.num *ℤ g.den) no_more
    (λ least.
    let one = mul-le (b.num *ℤ g.den) (g.num *ℤ b.den) f.den least (omega (arith, ints, pf)) in
    let two = mul-lt (g.num *ℤ f.den) (f.num *ℤ g.den) b.den below pb in
    let three = mul-le (f.num *ℤ b.den) (b.num *ℤ f.den) g.den other (omega (arith, ints, pg)) in
    omega (
      arith,
      le_from (times (times (v b.num) (v g.den)) (v f.den)) (times (times (v g.num) (v b.den)) (v f.den)) one,
      lt_from (times (times (v g.num) (v f.den)) (v b.den)) (times (times (v f.num) (v g.den)) (v b.den)) two,
      le_from (times (times (v f.num) (v b.den)) (v g.den)) (times (times (v b.num) (v f.den)) (v g.den)) three,
    ))))

-- what is no more than g is no more than what g is below
pub not-below : (b g f : Fraction) → pos 1 ≤ℤ b.den → pos 1 ≤ℤ g.den → pos 1 ≤ℤ f.den → ¬ (IsBelow g b) → IsBelow g f → ¬ (IsBelow f b)
not-below b g f pb pg pf no_more below h =
    let k = below-chain b g f pb pg pf no_more below in
    omega (arith, ints, h, k)

-- fractions of the same values stand alike
cross : (xn xd yn yd fn fd gn gd : ℤ) → pos 1 ≤ℤ xd → pos 1 ≤ℤ yd → pos 1 ≤ℤ fd → pos 1 ≤ℤ gd → fn *ℤ xd ≡ xn *ℤ fd → gn *ℤ yd ≡ yn *ℤ gd → (xn *ℤ yd) <ℤ (yn *ℤ xd) → (fn *ℤ gd) <ℤ (gn *ℤ fd)
cross xn xd yn yd fn fd gn gd px py pf pg ef eg below =
    by_lt_z (fn *ℤ gd) (gn *ℤ fd) (λ h. h)
    (λ other. absurd (
    let one = mul-lt (xn *ℤ yd) (yn *ℤ xd) (fd *ℤ gd) below (one_le_product fd gd pf pg) in
    let positive = one_le_product xd yd px py in
    let two = mul-le (gn *ℤ fd) (fn *ℤ gd) (xd *ℤ yd) other (omega (arith, ints, positive)) in
    let left : (xn *ℤ yd) *ℤ (fd *ℤ gd) ≡ (fn *ℤ gd) *ℤ (xd *ℤ yd) =
    same_by (times (times (v xn) (v yd)) (times (v fd) (v gd))) (times (times (v xn) (v fd)) (times (v gd) (v yd))) (omega arith)
    ∙ ap (λ (z : ℤ). z *ℤ (gd *ℤ yd)) (sym ef)
    ∙ same_by (times (times (v fn) (v xd)) (times (v gd) (v yd))) (times (times (v fn) (v gd)) (times (v xd) (v yd))) (omega arith) in
    let right : (yn *ℤ xd) *ℤ (fd *ℤ gd) ≡ (gn *ℤ fd) *ℤ (xd *ℤ yd) =
    same_by (times (times (v yn) (v xd)) (times (v fd) (v gd))) (times (times (v yn) (v gd)) (times (v fd) (v xd))) (omega arith)
    ∙ ap (λ (z : ℤ). z *ℤ (fd *ℤ xd)) (sym eg)
    ∙ same_by (times (times (v gn) (v yd)) (times (v fd) (v xd))) (times (times (v gn) (v fd)) (times (v xd) (v yd))) (omega arith) in
    omega (arith, ints, one, two, left, right)))

-- in lowest terms they stand as they did
pub below-lowered : (x y f g : Fraction) → pos 1 ≤ℤ x.den → pos 1 ≤ℤ y.den → IsReducedForm x.num x.den f → IsReducedForm y.num y.den g → IsBelow x y → IsBelow f g
below-lowered x y f g px py form_f form_g = cross x.num x.den y.num y.den f.num f.den g.num g.den px py form_f.reduced.positive form_g.reduced.positive form_f.equal form_g.equal

pub below-raised : (x y f g : Fraction) → pos 1 ≤ℤ x.den → pos 1 ≤ℤ y.den → IsReducedForm x.num x.den f → IsReducedForm y.num y.den g → IsBelow f g → IsBelow x y
below-raised x y f g px py form_f form_g = cross f.num f.den g.num g.den x.num x.den y.num y.den form_f.reduced.positive form_g.reduced.positive px py (sym form_f.equal) (sym form_g.equal)
