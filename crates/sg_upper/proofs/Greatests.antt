-- The greatest of bounds, with one more at a time.
use Rattle.std.proofs.Common.{◌≡◌, List, [], ◌∷◌, ◌++◌, ℤ, pos, ◌*ℤ◌, ◌≤ℤ◌, Option, Some, None, subst, sym, refl, arith}
use Rattle.std.specs.List.{All}
use Rattle.std.proofs.lemmas.Int.{ints}
use Rattle.std.proofs.lemmas.List.{append-nil}
use Rattle.std.proofs.lemmas.List.Elements.{All-append, All-cons, All-nil, Contains-append_left, Contains-append_right}
use Rattle.sg_model.proofs.Greatest.{Contains-head}
use Rattle.sg_model.proofs.Ints.{v, times, le_by, le_from, cancel-le, mul-le}
use Rattle.sg_frac.specs.Fractions.{Fraction, IsReduced, IsReducedForm}
use Rattle.sg_frac.specs.Order.{IsBelow as IsStrict}
use Rattle.sg_bounds.specs.Accepted.{IsNotAbove, IsSame}
use Rattle.sg_upper.specs.Tops.{AreLowered, IsTop}

pub reduced-as : (n d n' d' : ℤ) (f : Fraction) → n' ≡ n → d' ≡ d → IsReducedForm n' d' f → IsReducedForm n d f
reduced-as n d n' d' f e k h = subst (λ (z : ℤ). IsReducedForm n z f) k (subst (λ (z : ℤ). IsReducedForm z d' f) e h)

-- a ≤ b and b ≤ c give a ≤ c
below-trans : (a b c : Fraction) → pos 1 ≤ℤ a.den → pos 1 ≤ℤ b.den → pos 1 ≤ℤ c.den → IsNotAbove a b → IsNotAbove b c → IsNotAbove a c
below-trans a b c pa pb pc h k =
    let an = v a.num in let ad = v a.den in let bn = v b.num in let bd = v b.den in let cn = v c.num in let cd = v c.den in
    let p = mul-le (a.num *ℤ b.den) (b.num *ℤ a.den) c.den h (omega (arith, ints, pc)) in
    let q = mul-le (b.num *ℤ c.den) (c.num *ℤ b.den) a.den k (omega (arith, ints, pa)) in
    let x : ((a.num *ℤ c.den) *ℤ b.den) ≤ℤ ((c.num *ℤ a.den) *ℤ b.den) =
    le_by (times (times an cd) bd) (times (times cn ad) bd) (omega (arith, le_from (times (times an bd) cd) (times (times bn ad) cd) p, le_from (times (times bn cd) ad) (times (times cn bd) ad) q)) in
    cancel-le (a.num *ℤ c.den) (c.num *ℤ a.den) b.den x pb

below-same : (a b : Fraction) → IsSame a b → IsNotAbove a b
below-same a b e = omega (arith, ints, e)

same-below : (a b : Fraction) → IsSame a b → IsNotAbove b a
same-below a b e = omega (arith, ints, e)

-- a fraction and its reduced form
form-same : (x b : Fraction) → IsReducedForm x.num x.den b → IsSame x b
form-same x b h = sym h.equal

pub top-start : (b : Fraction) → IsReduced b → IsTop b (b ∷ [])
top-start b h = record {
  reduced = h;
  greatest = record {
    bounds = All-cons (λ (x : Fraction). IsNotAbove x b) b [] (omega (arith, ints)) (All-nil (λ (x : Fraction). IsNotAbove x b));
    reached = (b, Contains-head b [], refl);
  };
  positive = All-cons (λ (x : Fraction). pos 1 ≤ℤ x.den) b [] h.positive (All-nil (λ (x : Fraction). pos 1 ≤ℤ x.den));
}

append-positive : (bs : List Fraction) (x : Fraction) → All (λ (y : Fraction). pos 1 ≤ℤ y.den) bs → pos 1 ≤ℤ x.den → All (λ (y : Fraction). pos 1 ≤ℤ y.den) (bs ++ x ∷ [])
append-positive bs x h p = All-append (λ (y : Fraction). pos 1 ≤ℤ y.den) bs (x ∷ []) h (All-cons (λ (y : Fraction). pos 1 ≤ℤ y.den) x [] p (All-nil (λ (y : Fraction). pos 1 ≤ℤ y.den)))

-- a new bound that is not above the greatest
pub top-kept : (b x n : Fraction) (bs : List Fraction) → IsTop b bs → pos 1 ≤ℤ x.den → IsReducedForm x.num x.den n → IsNotAbove n b → IsTop b (bs ++ x ∷ [])
top-kept b x n bs h p form le =
    let same = form-same x n form in
    let here : IsNotAbove x b = below-trans x n b p form.reduced.positive h.reduced.positive (below-same x n same) le in
    let at = h.greatest.reached in
    record {
      reduced = h.reduced;
      greatest = record {
        bounds = All-append (λ (y : Fraction). IsNotAbove y b) bs (x ∷ []) h.greatest.bounds (All-cons (λ (y : Fraction). IsNotAbove y b) x [] here (All-nil (λ (y : Fraction). IsNotAbove y b)));
        reached = (at.0, Contains-append_left bs (x ∷ []) at.0 at.1, at.2);
      };
      positive = append-positive bs x h.positive p;
    }

-- one that is
pub top-raised : (b x n : Fraction) (bs : List Fraction) → IsTop b bs → pos 1 ≤ℤ x.den → IsReducedForm x.num x.den n → IsNotAbove b n → IsTop n (bs ++ x ∷ [])
top-raised b x n bs h p form le =
    let same = form-same x n form in
    let under : All (λ (y : Fraction). IsNotAbove y n) bs = λ k d lt. below-trans _ b n (h.positive k d lt) h.reduced.positive form.reduced.positive (h.greatest.bounds k d lt) le in
    record {
      reduced = form.reduced;
      greatest = record {
        bounds = All-append (λ (y : Fraction). IsNotAbove y n) bs (x ∷ []) under (All-cons (λ (y : Fraction). IsNotAbove y n) x [] (below-same x n same) (All-nil (λ (y : Fraction). IsNotAbove y n)));
        reached = (x, Contains-append_right bs (x ∷ []) x (Contains-head x []), same);
      };
      positive = append-positive bs x h.positive p;
    }

pub top-none : (b : Fraction) (bs xs : List Fraction) → IsTop b bs → xs ≡ [] → IsTop b (bs ++ xs)
top-none b bs xs h e = rw e (subst (IsTop b) (sym (append-nil bs)) h)

-- a bound that may be there, by how it stands to the greatest
pub raise-less : (b n : Fraction) (o : Option Fraction) (bs more : List Fraction) → o ≡ Some n → IsTop b bs → AreLowered more o → IsStrict b n → IsTop n (bs ++ more)
raise-less b n o bs more is h shows lt =
    let s : AreLowered more (Some n) = subst (AreLowered more) is shows in
    rw s.1 (top-raised b s.0 n bs h s.2 s.3 (omega (arith, ints, lt)))

pub raise-greater : (b n : Fraction) (o : Option Fraction) (bs more : List Fraction) → o ≡ Some n → IsTop b bs → AreLowered more o → IsNotAbove n b → IsTop b (bs ++ more)
raise-greater b n o bs more is h shows le =
    let s : AreLowered more (Some n) = subst (AreLowered more) is shows in
    rw s.1 (top-kept b s.0 n bs h s.2 s.3 le)

pub raise-none : (b : Fraction) (o : Option Fraction) (bs more : List Fraction) → o ≡ None → IsTop b bs → AreLowered more o → IsTop b (bs ++ more)
raise-none b o bs more is h shows = top-none b bs more h (subst (AreLowered more) is shows)

pub same-under : (b n : Fraction) → b ≡ n → IsNotAbove n b
same-under b n e = rw e (omega (arith, ints))
