-- The steps of a quotient, and what a fact's bound is formed of.
use Rattle.std.proofs.Common.{◌≡◌, ◌∙◌, ℕ, Bool, true, false, List, [], ◌∷◌, ℤ, pos, ◌≤ℤ◌, ◌<ℤ◌, ◌+ℤ◌, ◌*ℤ◌, Option, Some, None, Result, Ok, Err, ap, sym, refl, arith, subst, inl, inr}
use Rattle.std.specs.Prelude.{FitsSigned, IfSome, IsNone, MatchOption, ◌↔◌, ◌⊎◌, if◌then◌else◌, int_lt}
use Rattle.std.proofs.lemmas.Int.{ints}
use Rattle.sg_num.specs.declared.step.Op.{Op}
use Rattle.sg_num.specs.declared.step.Op.TheVariants.{Sum, Times}
use Rattle.sg_num.specs.declared.step.Wide.{Wide}
use Rattle.sg_num.specs.Exact.{exact, exact_sum, exact_times, fits, result_of}
use Rattle.sg_num.specs.Operations.{first_wide, plus, times}
use Rattle.std.specs.Int.{w128}
use Rattle.sg_num.proofs.Steps.{fits-from_FitsSigned}
use Rattle.sg_frac.proofs.Steps.{not_wide_of_fits}
use Rattle.sg_frac.specs.Fractions.{Fraction, IsReducedForm, IsReducedFormWide}
use Rattle.sg_model.proofs.Ints.{mul-le}
use Rattle.sg_model.specs.Games.{Game, prior_total}
use Rattle.sg_tree.specs.declared.fact.Fact.{Fact}
use Rattle.sg_tree.specs.declared.report.Cap.{Cap}
use Rattle.sg_bounds.specs.Facts.{mu_of, rho_of}
use Rattle.sg_bounds.specs.Leaves.{rest_of, root_bound}
use Rattle.sg_upper.proofs.Greatests.{reduced-as}
use Rattle.sg_upper.specs.declared.leaf.Quotient.{Quotient}
use Rattle.sg_upper.specs.Tops.{AreLowered, FormsBase, FormsBound, FormsQuotient, IsStatedBase}

abbrev step : Op → ℤ → ℤ → Wide
step op a b = record { op = op; left = a; right = b }

-- a step that has a value fits, and has the exact result
pub step-Ok : (op : Op) (a b v : ℤ) (more : List Wide) → Ok v ≡ exact op a b → (first_wide (step op a b ∷ more) ≡ first_wide more) × (v ≡ result_of op a b)
step-Ok op a b v more e = go (fits (result_of op a b)) e
  where
    go : (t : Bool) → ◌≡◌ {A = Result ℤ Wide} (Ok v) (if t then Ok (result_of op a b) else Err (step op a b)) → ((if t then first_wide more else Some (step op a b)) ≡ first_wide more) × (v ≡ result_of op a b)
    go true e = (refl, cc)
    go false e = absurd (cc)

-- one that is refused is the first
pub step-Err : (op : Op) (a b : ℤ) (w : Wide) (more : List Wide) → Err w ≡ exact op a b → first_wide (step op a b ∷ more) ≡ Some w
step-Err op a b w more e = go (fits (result_of op a b)) e
  where
    go : (t : Bool) → ◌≡◌ {A = Result ℤ Wide} (Err w) (if t then Ok (result_of op a b) else Err (step op a b)) → (if t then first_wide more else Some (step op a b)) ≡ Some w
    go true e = absurd (cc)
    go false e = cc

pub quotient-Ok : (rho mu rest priors share num den num' den' : ℤ) → Ok share ≡ exact_times rho rest → Ok num ≡ exact_sum mu share → Ok den ≡ exact_times rho priors
    → num' ≡ num → den' ≡ den → FormsQuotient rho mu rest priors (Ok (record { num = num'; den = den' }))
quotient-Ok rho mu rest priors share num den num' den' e f h en ed =
    let a = step-Ok Times rho rest share (plus mu (rho *ℤ rest) ∷ times rho priors ∷ []) e in
    let b = step-Ok Sum mu (rho *ℤ rest) num (times rho priors ∷ []) (f ∙ ap (exact_sum mu) a.1) in
    let c = step-Ok Times rho priors den [] h in
    (a.0 ∙ (b.0 ∙ c.0), en ∙ b.1, ed ∙ c.1)

pub quotient-third : (rho mu rest priors share num : ℤ) (w : Wide) → Ok share ≡ exact_times rho rest → Ok num ≡ exact_sum mu share → Err w ≡ exact_times rho priors
    → FormsQuotient rho mu rest priors (Err w)
quotient-third rho mu rest priors share num w e f h =
    let a = step-Ok Times rho rest share (plus mu (rho *ℤ rest) ∷ times rho priors ∷ []) e in
    let b = step-Ok Sum mu (rho *ℤ rest) num (times rho priors ∷ []) (f ∙ ap (exact_sum mu) a.1) in
    a.0 ∙ (b.0 ∙ step-Err Times rho priors w [] h)

-- ---- the bound of a fact

pub den-some : (rho priors den : ℤ) → pos 1 ≤ℤ rho → pos 1 ≤ℤ priors → den ≡ rho *ℤ priors → pos 1 ≤ℤ den
den-some rho priors den r p e = omega (arith, ints, e, p, mul-le (pos 1) rho priors r (omega (arith, ints, p)))

pub bound-Ok : (g : Game) (caps : List Cap) (n : ℕ) (f : Fact) (r m x p : ℤ) (q : Quotient) (b : Fraction) → r ≡ rho_of f → m ≡ mu_of f → x ≡ rest_of g caps n → p ≡ prior_total g
    → pos 1 ≤ℤ m → FormsQuotient r m x p (Ok q) → pos 1 ≤ℤ q.den → IsReducedForm q.num q.den b → FormsBound g caps n f (Ok (Some b))
bound-Ok g caps n f r m x p q b er em ex ep some h den form =
    let t : int_lt (pos 0) (mu_of f) ≡ true = sym (omega (arith, ints, em, some)) in
    let k : FormsQuotient (rho_of f) (mu_of f) (rest_of g caps n) (prior_total g) (Ok q) =
    subst (λ (z : ℤ). FormsQuotient z (mu_of f) (rest_of g caps n) (prior_total g) (Ok q)) er
    (subst (λ (z : ℤ). FormsQuotient r z (rest_of g caps n) (prior_total g) (Ok q)) em
    (subst (λ (z : ℤ). FormsQuotient r m z (prior_total g) (Ok q)) ex (subst (λ (z : ℤ). FormsQuotient r m x z (Ok q)) ep h))) in
    let y : Fraction = record { num = mu_of f +ℤ (rho_of f *ℤ rest_of g caps n); den = rho_of f *ℤ prior_total g } in
    rw t (k.0, (y, refl, omega (arith, ints, den, k.2), reduced-as y.num y.den q.num q.den b k.1 k.2 form))

pub bound-Err : (g : Game) (caps : List Cap) (n : ℕ) (f : Fact) (r m x p : ℤ) (w : Wide) → r ≡ rho_of f → m ≡ mu_of f → x ≡ rest_of g caps n → p ≡ prior_total g
    → pos 1 ≤ℤ m → FormsQuotient r m x p (Err w) → FormsBound g caps n f (Err w)
bound-Err g caps n f r m x p w er em ex ep some h =
    let t : int_lt (pos 0) (mu_of f) ≡ true = sym (omega (arith, ints, em, some)) in
    let k : FormsQuotient (rho_of f) (mu_of f) (rest_of g caps n) (prior_total g) (Err w) =
    subst (λ (z : ℤ). FormsQuotient z (mu_of f) (rest_of g caps n) (prior_total g) (Err w)) er
    (subst (λ (z : ℤ). FormsQuotient r z (rest_of g caps n) (prior_total g) (Err w)) em
    (subst (λ (z : ℤ). FormsQuotient r m z (prior_total g) (Err w)) ex (subst (λ (z : ℤ). FormsQuotient r m x z (Err w)) ep h))) in
    rw t k

pub bound-none : (g : Game) (caps : List Cap) (n : ℕ) (f : Fact) (m : ℤ) → m ≡ mu_of f → m <ℤ pos 1 → FormsBound g caps n f (Ok None)
bound-none g caps n f m em none =
    let t : int_lt (pos 0) (mu_of f) ≡ false = sym (omega (arith, ints, em, none)) in
    rw t (refl, refl)

pub base-some : (g : Game) (caps : List Cap) (n : ℕ) (over : Option Fraction) (base : Option Fact) (f : Fact) (r : Result (Option Fraction) Wide) → base ≡ Some f → FormsBound g caps n f r
    → FormsBase g caps n over base r
base-some g caps n over base f (Ok b) is h = rw is h
base-some g caps n over base f (Err w) is h = rw is h

abbrev pub IsLowest : ℤ → ℤ → Option Fraction → Type 0
IsLowest num den b = MatchOption b ⊥ (IsReducedForm num den)

pub lowered : (num den : ℤ) (b : Option Fraction) → pos 1 ≤ℤ den → IsLowest num den b → AreLowered (record { num = num; den = den } ∷ []) b
lowered num den None h none = absurd none
lowered num den (Some b) h form = (record { num = num; den = den }, refl, h, form)

pub bound-formed : (g : Game) (caps : List Cap) (n : ℕ) (f : Fact) (r m x p : ℤ) (q : Quotient) (b : Option Fraction) → r ≡ rho_of f → m ≡ mu_of f → x ≡ rest_of g caps n → p ≡ prior_total g
    → pos 1 ≤ℤ m → FormsQuotient r m x p (Ok q) → pos 1 ≤ℤ q.den → IsLowest q.num q.den b → FormsBound g caps n f (Ok b)
bound-formed g caps n f r m x p q None er em ex ep some h den none = absurd none
bound-formed g caps n f r m x p q (Some b) er em ex ep some h den form = bound-Ok g caps n f r m x p q b er em ex ep some h den form

pub lowest-is : (num den : ℤ) (b : Option Fraction) → pos 1 ≤ℤ den → FitsSigned w128 num → FitsSigned w128 den → IfSome b (IsReducedForm num den)
    → (IsNone b ↔ ((den ≡ pos 0) ⊎ IsReducedFormWide num den)) → IsLowest num den b
lowest-is num den None some n d value none =
    elim (none.0 refl) [
      | inl e ↦ omega (arith, ints, some, e)
      | inr w ↦ not_wide_of_fits num den some (fits-from_FitsSigned num n) (fits-from_FitsSigned den d) w
    ]
lowest-is num den (Some b) some n d value none = value

pub base-stated : (base : Option Fact) (f : Fact) → base ≡ Some f → IsStatedBase base → pos 1 ≤ℤ rho_of f
base-stated base f is h = subst IsStatedBase is h

pub root-lowered : (g : Game) (num den : ℤ) (b : Option Fraction) → num ≡ (root_bound g).num → den ≡ (root_bound g).den → pos 1 ≤ℤ den → IsLowest num den b → AreLowered (root_bound g ∷ []) b
root-lowered g num den None en ed h none = absurd none
root-lowered g num den (Some b) en ed h form = (root_bound g, refl, omega (arith, ints, ed, h), reduced-as (root_bound g).num (root_bound g).den num den b en ed form)
