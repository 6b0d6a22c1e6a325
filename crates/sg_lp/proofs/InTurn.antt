-- Testing columns in turn: what the answer is at one of them, by what its test formed and said.
use Rattle.std.proofs.Common.{◌≡◌, ◌∙◌, ℕ, ◌+◌, ◌<◌, ◌≤◌, Bool, true, false, List, [], drop, length, slice_index_or, refl, ap, arith, sym, Option, Some, None}
use Rattle.std.specs.Prelude.{ℤ, nat_le, if◌then◌else◌}
use Rattle.std.proofs.lemmas.List.{drop_all, drop_more}
use Rattle.std.proofs.lemmas.Bool.Decides.{nat_tests}
use Rattle.sg_num.specs.declared.step.Wide.{Wide}
use Rattle.sg_num.specs.Operations.{first_wide}
use Rattle.sg_lp.specs.declared.column.Column.{Column}
use Rattle.sg_lp.specs.Programs.{Program}
use Rattle.sg_lp.specs.Pricing.{Answer, clean, found, spent, wide}
use Rattle.sg_lp.specs.Listing.{enters, listing_answer, price_steps, tested}

module _ (p : Program) (y : List ℤ) (rho : ℤ) (budget i : ℕ) (d : Column) (lt : i < length p.columns) (steps : List Wide) (test : Bool)
    (steps-are : first_wide steps ≡ first_wide (price_steps p y rho (slice_index_or p.columns i d))) (test-is : test ≡ enters p y rho (slice_index_or p.columns i d)) where
  abbrev here : Column
  here = slice_index_or p.columns i d

  abbrev rest : Answer
  rest = listing_answer p y rho budget (i + 1) (drop (i + 1) p.columns)

  opened : listing_answer p y rho budget i (drop i p.columns) ≡ (if nat_le budget i then spent else tested (first_wide steps) test here rest)
  opened =
      ap (listing_answer p y rho budget i) (drop_more p.columns i d lt)
      ∙ ap (λ (o : Option Wide). if nat_le budget i then spent else tested o (enters p y rho here) here rest) (sym steps-are)
      ∙ ap (λ (b : Bool). if nat_le budget i then spent else tested (first_wide steps) b here rest) (sym test-is)

  left : i < budget → nat_le budget i ≡ false
  left h = grind (arith, nat_tests)

  pub enters_at : i < budget → first_wide steps ≡ None → test ≡ true → listing_answer p y rho budget i (drop i p.columns) ≡ found here
  enters_at h f e = opened ∙ ap (λ (b : Bool). if b then spent else tested (first_wide steps) test here rest) (left h) ∙ ap (λ (o : Option Wide). tested o test here rest) f ∙ ap (λ (b : Bool). tested None b here rest) e

  pub stays_at : i < budget → first_wide steps ≡ None → test ≡ false → listing_answer p y rho budget i (drop i p.columns) ≡ rest
  stays_at h f e = opened ∙ ap (λ (b : Bool). if b then spent else tested (first_wide steps) test here rest) (left h) ∙ ap (λ (o : Option Wide). tested o test here rest) f ∙ ap (λ (b : Bool). tested None b here rest) e

  pub fails_at : (w : Wide) → i < budget → first_wide steps ≡ Some w → listing_answer p y rho budget i (drop i p.columns) ≡ wide 2 w
  fails_at w h f = opened ∙ ap (λ (b : Bool). if b then spent else tested (first_wide steps) test here rest) (left h) ∙ ap (λ (o : Option Wide). tested o test here rest) f

-- the budget is spent before a further column is tested
pub spent_at : (p : Program) (y : List ℤ) (rho : ℤ) (budget i : ℕ) (d : Column) → i < length p.columns → budget ≤ i → listing_answer p y rho budget i (drop i p.columns) ≡ spent
spent_at p y rho budget i d lt h = ap (listing_answer p y rho budget i) (drop_more p.columns i d lt) ∙ (let e : nat_le budget i ≡ true = grind (arith, nat_tests) in rw e refl)

-- all columns were tested
pub clean_at : (p : Program) (y : List ℤ) (rho : ℤ) (budget n i : ℕ) → n ≡ length p.columns → n ≤ i → i ≤ n → listing_answer p y rho budget i (drop i p.columns) ≡ clean (length p.columns)
clean_at p y rho budget n i e le ge =
    let same : i ≡ length p.columns = omega (arith, e, le, ge) in
    let none : drop i p.columns ≡ [] = drop_all i p.columns (omega (arith, same)) in
    ap (listing_answer p y rho budget i) none ∙ ap clean same
