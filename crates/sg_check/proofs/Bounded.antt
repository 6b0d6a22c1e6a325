-- The bound of a fact, formed or not.
use Rattle.std.proofs.Common.{◌≡◌, ◌∙◌, ℕ, suc, ◌+◌, true, false, [], ◌∷◌, ℤ, pos, ◌+ℤ◌, ◌*ℤ◌, ◌≤ℤ◌, Some, None, Ok, ap, subst, refl, arith, ◌↔◌, inl}
use Rattle.std.specs.Prelude.{int_lt}
use Rattle.std.specs.List.{All}
use Rattle.std.proofs.lemmas.Int.{ints}
use Rattle.std.proofs.lemmas.List.Elements.{All-cons, All-head, All-nil, All-tail}
use Rattle.sg_model.specs.Games.{Game, prior_total}
use Rattle.sg_model.specs.Sums.{numbers_from, total}
use Rattle.sg_model.proofs.Ints.{mul-le}
use Rattle.sg_frac.specs.Fractions.{Fraction, IsReducedForm}
use Rattle.sg_tree.specs.declared.fact.Fact.{Fact}
use Rattle.sg_tree.specs.declared.report.Report.{Report}
use Rattle.sg_num.specs.Exact.{Fits}
use Rattle.sg_bounds.specs.Facts.{mu_of, rho_of}
use Rattle.sg_bounds.specs.Leaves.{fact_bound, listed, rest_of}
use Rattle.sg_bounds.specs.Sizes.{bound_sums}
use Rattle.sg_check.specs.declared.bound.Stated.{Stated}
use Rattle.sg_check.specs.declared.numbers.Numbers.{Numbers}
use Rattle.sg_check.specs.declared.quotient.Quotient.{Quotient}
use Rattle.sg_check.specs.Answering.{BoundAnswers, TellsFirst, held_line}
use Rattle.sg_check.specs.Parts.{bounded_stops}
use Rattle.sg_check.specs.Placing.{AreNumbersOf, BoundFits, IsBoundOf}
use Rattle.sg_check.proofs.Tops.{reduced-as}

three : (rho mu rest priors : ℤ) → BoundFits rho mu rest priors ↔ All Fits ((rho *ℤ rest) ∷ (mu +ℤ (rho *ℤ rest)) ∷ (rho *ℤ priors) ∷ [])
three rho mu rest priors =
    let x : ℤ = rho *ℤ rest in
    let y : ℤ = mu +ℤ (rho *ℤ rest) in
    let z : ℤ = rho *ℤ priors in (
      λ h. All-cons Fits x (y ∷ z ∷ []) h.share (All-cons Fits y (z ∷ []) h.num (All-cons Fits z [] h.den (All-nil Fits))),
      λ h. let t = All-tail Fits x (y ∷ z ∷ []) h in
          record { share = All-head Fits x (y ∷ z ∷ []) h; num = All-head Fits y (z ∷ []) t; den = All-head Fits z [] (All-tail Fits y (z ∷ []) t) },
    )

module _ (g : Game) (r : Report) (m : Numbers) (is : AreNumbersOf g m) (n : ℕ) (f : Fact) (s : Stated) (rho_is : s.rho ≡ rho_of f) (mu_is : s.mu ≡ mu_of f) where
  sums-fit : int_lt (pos 0) s.mu ≡ true → BoundFits s.rho s.mu (rest_of g r.caps n) m.priors ↔ All Fits (bound_sums g r.caps n f)
  sums-fit some =
      let some' : int_lt (pos 0) (mu_of f) ≡ true = subst (λ (z : ℤ). int_lt (pos 0) z ≡ true) mu_is some in
      rw (some', rho_is, mu_is, is.priors) (three (rho_of f) (mu_of f) (rest_of g r.caps n) (prior_total g))

  -- its bound doesn't fit
  pub bound-wide : (at line : ℕ) → line ≡ held_line at → int_lt (pos 0) s.mu ≡ true → (BoundFits s.rho s.mu (rest_of g r.caps n) m.priors → ⊥)
      → TellsFirst g r (bounded_stops at n f) (record { line = line; reason = 9 })
  bound-wide at line e some wide = (at, inl ((λ p. wide ((sums-fit some).1 p)), refl, refl), e)

  -- it bounds nothing
  pub bound-none : (at : ℕ) → int_lt (pos 0) s.mu ≡ false → BoundAnswers g r (bounded_stops at n f) (listed (fact_bound g r.caps n f)) (Ok None)
  bound-none at none =
      let none' : int_lt (pos 0) (mu_of f) ≡ false = subst (λ (z : ℤ). int_lt (pos 0) z ≡ false) mu_is none in
      rw none' ((All-nil Fits, tt), refl)

  -- the denominator is at least 1
  pub den-some : (b : Quotient) → pos 1 ≤ℤ rho_of f → IsBoundOf b s.rho s.mu (rest_of g r.caps n) m.priors → pos 1 ≤ℤ b.den
  den-some b some h =
      let p = mul-le (pos 1) s.rho m.priors (omega (arith, ints, some, rho_is)) (omega (arith, ints, is.priors_range.at_least)) in
      omega (arith, ints, h.den, p, is.priors_range.at_least)

  -- it bounds, and this is its bound
  pub bound-some : (at : ℕ) (b : Quotient) (x : Fraction) → pos 1 ≤ℤ rho_of f → int_lt (pos 0) s.mu ≡ true
      → BoundFits s.rho s.mu (rest_of g r.caps n) m.priors → IsBoundOf b s.rho s.mu (rest_of g r.caps n) m.priors → IsReducedForm b.num b.den x
      → BoundAnswers g r (bounded_stops at n f) (listed (fact_bound g r.caps n f)) (Ok (Some x))
  bound-some at b x some_rho some fit h form =
      let some' : int_lt (pos 0) (mu_of f) ≡ true = subst (λ (z : ℤ). int_lt (pos 0) z ≡ true) mu_is some in
      let y : Fraction = record { num = mu_of f +ℤ (rho_of f *ℤ rest_of g r.caps n); den = rho_of f *ℤ prior_total g } in
      let num : b.num ≡ y.num = h.num ∙ (λ i. mu_is i +ℤ (rho_is i *ℤ rest_of g r.caps n)) in
      let den : b.den ≡ y.den = h.den ∙ (λ i. rho_is i *ℤ is.priors i) in
      let some_den : pos 1 ≤ℤ y.den = subst (λ (z : ℤ). pos 1 ≤ℤ z) den (den-some b some_rho h) in
      let all = (sums-fit some).0 fit in
      let shown : listed (fact_bound g r.caps n f) ≡ y ∷ [] = rw some' refl in
      ((all, tt), (y, shown, some_den, reduced-as y.num y.den b.num b.den x num den form))

-- ---- sums over the types

-- the first of some numbers in a row, and the others
pub total-step : (f : ℕ → ℤ) (a n m : ℕ) → n ≡ suc m → total f (numbers_from a n) ≡ f a +ℤ total f (numbers_from (a + 1) m)
total-step f a n m e = rw e refl

pub total-last : (f : ℕ → ℤ) (a n : ℕ) → n ≡ 0 → total f (numbers_from a n) ≡ pos 0
total-last f a n e = rw e refl

-- one more number of a sum over numbers in a row
pub sum-next : (f : ℕ → ℤ) (a n m : ℕ) (z x made whole : ℤ) → n ≡ suc m → z +ℤ total f (numbers_from a n) ≡ whole → x ≡ f a → made ≡ z +ℤ x
    → made +ℤ total f (numbers_from (a + 1) m) ≡ whole
sum-next f a n m z x made whole e h is k = omega (arith, ints, total-step f a n m e, h, is, k)

-- the numbers of a bound, formed one after another
pub bound-made : (rho mu rest formed share num den priors : ℤ) → formed ≡ rest → Fits (rho *ℤ formed) × (share ≡ rho *ℤ formed) → Fits (mu +ℤ share) × (num ≡ mu +ℤ share)
    → Fits (rho *ℤ priors) × (den ≡ rho *ℤ priors) → BoundFits rho mu rest priors × IsBoundOf (record { num = num; den = den }) rho mu rest priors
bound-made rho mu rest formed share num den priors e a b d =
    let is : rho *ℤ formed ≡ rho *ℤ rest = ap (λ (z : ℤ). rho *ℤ z) e in
    let all : share ≡ rho *ℤ rest = a.1 ∙ is in (
      record { share = subst Fits is a.0; num = subst (λ (z : ℤ). Fits (mu +ℤ z)) all b.0; den = d.0 },
      record { num = b.1 ∙ ap (λ (z : ℤ). mu +ℤ z) all; den = d.1 },
    )
