-- Fractions in lowest terms stand to one another as those that they stand for.
use Rattle.std.proofs.Common.{◌≡◌, ◌⊎◌, Bool, true, false, sym, ◌∙◌, refl, arith, Option, Some, None, inl, inr, ⊎_elim, ap, ℤ, pos, ◌*ℤ◌, ◌≤ℤ◌, ◌<ℤ◌}
use Rattle.std.specs.Prelude.{int_lt}
use Rattle.std.proofs.lemmas.Int.{ints}
use Rattle.std.proofs.lemmas.Bool.{cases_Bool}
use Rattle.sg_model.proofs.Ints.{v, n, times, same_by, le_by, lt_by, le_from, lt_from, same_from, mul-lt, mul-le, cancel-le}
use Rattle.sg_frac.specs.Fractions.{Fraction}
use Rattle.sg_search.specs.Searches.{Task, Search}
use Rattle.sg_search.specs.Bounding.{exceeds, is_over, lower}
use Rattle.sg_lanes.specs.Bounds.{Stands, StandsFor}
use Rattle.sg_lanes.specs.Choices.{is_over_by}

pub product-positive : (a b : ℤ) → pos 1 ≤ℤ a → pos 1 ≤ℤ b → pos 1 ≤ℤ (a *ℤ b)
product-positive a b x y =
    let m = mul-le (pos 1) a b x (omega (arith, ints, y)) in
    let one : (pos 1 *ℤ b) ≡ b = same_by (times (n 1) (v b)) (v b) (omega arith) in
    omega (arith, ints, m, one, y)

cancel-lt : (a b c : ℤ) → (a *ℤ c) <ℤ (b *ℤ c) → pos 1 ≤ℤ c → a <ℤ b
cancel-lt a b c lt some = ⊎_elim
    (λ yes. omega (arith, ints, yes))
    (λ other. absurd (let le : b ≤ℤ a = omega (arith, ints, other) in let m = mul-le b a c le (omega (arith, ints, some)) in omega (arith, ints, m, lt)))
    (cases_Bool (int_lt a b))

cross : (fn fd xn xd vn vd yn yd : ℤ) → pos 1 ≤ℤ fd → pos 1 ≤ℤ xd → pos 1 ≤ℤ vd → pos 1 ≤ℤ yd → fn *ℤ xd ≡ xn *ℤ fd → vn *ℤ yd ≡ yn *ℤ vd → (vn *ℤ fd) <ℤ (fn *ℤ vd) → (yn *ℤ xd) <ℤ (xn *ℤ yd)
cross fn fd xn xd vn vd yn yd f1 x1 v1 y1 a b lt =
    let m = mul-lt (vn *ℤ fd) (fn *ℤ vd) (xd *ℤ yd) lt (product-positive xd yd x1 y1) in
    let left : ((vn *ℤ fd) *ℤ (xd *ℤ yd)) ≡ ((yn *ℤ xd) *ℤ (fd *ℤ vd)) =
    same_by (times (times (v vn) (v fd)) (times (v xd) (v yd))) (times (times (v vn) (v yd)) (times (v fd) (v xd))) (omega arith)
    ∙ ap (λ (z : ℤ). z *ℤ (fd *ℤ xd)) b
    ∙ same_by (times (times (v yn) (v vd)) (times (v fd) (v xd))) (times (times (v yn) (v xd)) (times (v fd) (v vd))) (omega arith) in
    let right : ((fn *ℤ vd) *ℤ (xd *ℤ yd)) ≡ ((xn *ℤ yd) *ℤ (fd *ℤ vd)) =
    same_by (times (times (v fn) (v vd)) (times (v xd) (v yd))) (times (times (v fn) (v xd)) (times (v vd) (v yd))) (omega arith)
    ∙ ap (λ (z : ℤ). z *ℤ (vd *ℤ yd)) a
    ∙ same_by (times (times (v xn) (v fd)) (times (v vd) (v yd))) (times (times (v xn) (v yd)) (times (v fd) (v vd))) (omega arith) in
    cancel-lt (yn *ℤ xd) (xn *ℤ yd) (fd *ℤ vd) (omega (arith, ints, m, left, right)) (product-positive fd vd f1 v1)

lt-is : (a b : ℤ) → a <ℤ b → int_lt a b ≡ true
lt-is a b h = ⊎_elim (λ yes. yes) (λ other. absurd (omega (arith, ints, other, h))) (cases_Bool (int_lt a b))

both : (a b : Bool) → (a ≡ true → b ≡ true) → (b ≡ true → a ≡ true) → a ≡ b
both true b f h = sym (f refl)
both false true f h = h refl
both false false f h = refl

-- of fractions whose denominators are at least 1
pub exceeds-alike : (f x w y : Fraction) → Stands f x → Stands w y → pos 1 ≤ℤ x.den → pos 1 ≤ℤ y.den → exceeds f w ≡ exceeds x y
exceeds-alike f x w y a b x1 y1 = both (exceeds f w) (exceeds x y)
    (λ e. lt-is (y.num *ℤ x.den) (x.num *ℤ y.den) (cross f.num f.den x.num x.den w.num w.den y.num y.den a.reduced.positive x1 b.reduced.positive y1 a.equal b.equal (omega (arith, ints, e))))
    (λ e. lt-is (w.num *ℤ f.den) (f.num *ℤ w.den) (cross x.num x.den f.num f.den y.num y.den w.num w.den x1 a.reduced.positive y1 b.reduced.positive (sym a.equal) (sym b.equal) (omega (arith, ints, e))))

pub over-alike : (p : Task) (s : Search) (o : Option Fraction) (b : Option Fraction) (w : Fraction) → StandsFor o b → Stands w (lower p s) → ((x : Fraction) → b ≡ Some x → pos 1 ≤ℤ x.den) → pos 1 ≤ℤ (lower p s).den
    → is_over_by o w ≡ is_over p s b
over-alike p s None None w h k some den = refl
over-alike p s None (Some x) w h k some den = absurd h
over-alike p s (Some f) None w h k some den = absurd h
over-alike p s (Some f) (Some x) w h k some den = exceeds-alike f x w (lower p s) h k (some x refl) den
