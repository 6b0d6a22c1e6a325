-- The test of one column: its worth, then its product with the multipliers.
use Rattle.std.proofs.Common.{◌≡◌, ◌∙◌, ap, refl, arith, Bool, true, false, cond, List, ◌∷◌, Option, Some, None}
use Rattle.std.specs.Prelude.{ℤ, ◌*ℤ◌, ◌<ℤ◌, ◌≤ℤ◌, Result, Ok, Err, int_lt, if◌then◌else◌}
use Rattle.std.proofs.lemmas.Int.{ints}
use Rattle.sg_num.specs.declared.step.Wide.{Wide}
use Rattle.sg_num.specs.Exact.{exact_times, fits}
use Rattle.sg_num.specs.Operations.{first_wide, formed, is_formed, times}
use Rattle.sg_rows.proofs.Fitting.{Err-stops, Ok-fits, Ok-value}

-- a product that fits, and its value
product : (a b v : ℤ) → Ok v ≡ exact_times a b → (is_formed (times a b) ≡ true) × (v ≡ a *ℤ b)
product a b v e = go (fits (a *ℤ b)) refl e
  where
    go : (t : Bool) → fits (a *ℤ b) ≡ t → ◌≡◌ {A = Result ℤ Wide} (Ok v) (cond t (Ok (a *ℤ b)) (Err (times a b))) → (is_formed (times a b) ≡ true) × (v ≡ a *ℤ b)
    go true h q = (h, cc)
    go false h q = cc

module _ (steps : List Wide) (sum rho cost worth : ℤ) where
  first : Ok worth ≡ exact_times rho cost → (o : Option Wide) → first_wide steps ≡ o → first_wide (times rho cost ∷ steps) ≡ o
  first e o h = ap (λ (t : Bool). if t then first_wide steps else Some (times rho cost)) (product rho cost worth e).0 ∙ h

  less_true : (a b : ℤ) → a <ℤ b → int_lt a b ≡ true
  less_true a b h = grind (arith, ints)

  less_false : (a b : ℤ) → b ≤ℤ a → int_lt a b ≡ false
  less_false a b h = grind (arith, ints)

  pub test_true : (allowed : ℤ) → Ok worth ≡ exact_times rho cost → Ok allowed ≡ formed steps sum → allowed <ℤ worth → (first_wide (times rho cost ∷ steps) ≡ None) × (int_lt sum (rho *ℤ cost) ≡ true)
  test_true allowed e f h =
      let v = Ok-value steps sum allowed f in
      let w = product rho cost worth e in
      (first e None (Ok-fits steps sum allowed f), less_true sum (rho *ℤ cost) (omega (arith, ints, v, w.1, h)))

  pub test_false : (allowed : ℤ) → Ok worth ≡ exact_times rho cost → Ok allowed ≡ formed steps sum → worth ≤ℤ allowed → (first_wide (times rho cost ∷ steps) ≡ None) × (int_lt sum (rho *ℤ cost) ≡ false)
  test_false allowed e f h =
      let v = Ok-value steps sum allowed f in
      let w = product rho cost worth e in
      (first e None (Ok-fits steps sum allowed f), less_false sum (rho *ℤ cost) (omega (arith, ints, v, w.1, h)))

  pub fails_second : (wide : Wide) → Ok worth ≡ exact_times rho cost → Err wide ≡ formed steps sum → first_wide (times rho cost ∷ steps) ≡ Some wide
  fails_second wide e f = first e (Some wide) (Err-stops steps sum wide f)
