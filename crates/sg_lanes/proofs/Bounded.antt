-- The bound of a fact, whose numbers fit.
use Rattle.std.proofs.Common.{◌≡◌, ◌⊎◌, ℕ, ◌≤◌, Bool, true, false, true≢false, cond, List, [], ◌∷◌, sym, ◌∙◌, ap, subst, refl, arith, Option, Some, None, inl, inr, ⊎_elim, All, ℤ, pos, ◌+ℤ◌, ◌*ℤ◌, ◌≤ℤ◌}
use Rattle.std.specs.Prelude.{int_lt}
use Rattle.std.proofs.lemmas.Int.{ints}
use Rattle.std.proofs.lemmas.Bool.{cases_Bool}
use Rattle.std.proofs.lemmas.List.Elements.{All-head, All-tail}
use Rattle.sg_model.specs.Games.{Game, prior_total}
use Rattle.sg_num.specs.Exact.{Fits}
use Rattle.sg_frac.specs.Fractions.{Fraction, IsReducedForm}
use Rattle.sg_tree.specs.declared.fact.Fact.{Fact}
use Rattle.sg_tree.specs.declared.report.Cap.{Cap}
use Rattle.sg_bounds.specs.Facts.{mu_of, rho_of}
use Rattle.sg_bounds.specs.Leaves.{fact_bound, rest_of}
use Rattle.sg_bounds.specs.Sizes.{bound_sums}
use Rattle.sg_lanes.specs.Bounds.{Stands, StandsFor}

pub record Fit (g : Game) (caps : List Cap) (n : ℕ) (f : Fact) : Type 0 where
  pub share : Fits (rho_of f *ℤ rest_of g caps n)
  pub num : Fits (mu_of f +ℤ (rho_of f *ℤ rest_of g caps n))
  pub den : Fits (rho_of f *ℤ prior_total g)

pub bound-parts : (g : Game) (caps : List Cap) (n : ℕ) (f : Fact) → int_lt (pos 0) (mu_of f) ≡ true → All Fits (bound_sums g caps n f) → Fit g caps n f
bound-parts g caps n f e h =
    let a : ℤ = rho_of f *ℤ rest_of g caps n in
    let b : ℤ = mu_of f +ℤ a in
    let d : ℤ = rho_of f *ℤ prior_total g in
    let k : All Fits (a ∷ b ∷ d ∷ []) = subst (λ (c : Bool). All Fits (cond c (a ∷ b ∷ d ∷ []) [])) e h in
    let r = All-tail Fits a (b ∷ d ∷ []) k in
    record { share = All-head Fits a (b ∷ d ∷ []) k; num = All-head Fits b (d ∷ []) r; den = All-head Fits d [] (All-tail Fits b (d ∷ []) r) }

pub bound-stands : (g : Game) (caps : List Cap) (n : ℕ) (f : Fact) (q : Fraction) (num den : ℤ) → int_lt (pos 0) (mu_of f) ≡ true → num ≡ mu_of f +ℤ (rho_of f *ℤ rest_of g caps n) → den ≡ rho_of f *ℤ prior_total g → IsReducedForm num den q
    → StandsFor (Some q) (fact_bound g caps n f)
bound-stands g caps n f q num den e a b h =
    subst (λ (c : Bool). StandsFor (Some q) (cond {A = Option Fraction} c (Some (record { num = mu_of f +ℤ (rho_of f *ℤ rest_of g caps n); den = rho_of f *ℤ prior_total g })) None)) (sym e)
    (subst (λ (x : ℤ). IsReducedForm x (rho_of f *ℤ prior_total g) q) a (subst (λ (y : ℤ). IsReducedForm num y q) b h))

pub no-bound : (g : Game) (caps : List Cap) (n : ℕ) (f : Fact) → mu_of f ≤ℤ pos 0 → StandsFor None (fact_bound g caps n f)
no-bound g caps n f h =
    let e : int_lt (pos 0) (mu_of f) ≡ false = ⊎_elim (λ yes. absurd (omega (arith, ints, yes, h))) (λ k. k) (cases_Bool (int_lt (pos 0) (mu_of f))) in
    subst (λ (c : Bool). StandsFor None (cond {A = Option Fraction} c (Some (record { num = mu_of f +ℤ (rho_of f *ℤ rest_of g caps n); den = rho_of f *ℤ prior_total g })) None)) (sym e) tt

pub above-none : (m x : ℤ) → m ≡ x → pos 1 ≤ℤ m → int_lt (pos 0) x ≡ true
above-none m x e h = ⊎_elim (λ yes. yes) (λ k. absurd (omega (arith, ints, k, h, e))) (cases_Bool (int_lt (pos 0) x))
