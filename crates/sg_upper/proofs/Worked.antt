-- The worked trees.
use Rattle.std.proofs.Common.{◌∷◌, [], refl, arith}
use Rattle.std.specs.List.{Contains}
use Rattle.std.proofs.lemmas.Int.{ints}
use Rattle.std.proofs.lemmas.List.Elements.{All-cons, All-nil, Contains-append_right}
use Rattle.sg_model.proofs.Greatest.{Contains-head}
use Rattle.sg_frac.specs.Fractions.{Fraction}
use Rattle.sg_bounds.proofs.Worked.{reduced}
use Rattle.sg_bounds.specs.Accepted.{IsGreatest, IsNotAbove, IsSame}
use Rattle.sg_bounds.specs.Examples.{over}
use Rattle.sg_upper.specs.Examples.{UppersAreWorked}

greatest_of_two : (top a b : Fraction) → IsNotAbove a top → IsNotAbove b top → (x : Fraction) × Contains (a ∷ b ∷ []) x × IsSame x top → IsGreatest top (a ∷ b ∷ [])
greatest_of_two top a b p q at = record {
  bounds = All-cons (λ (x : Fraction). IsNotAbove x top) a (b ∷ []) p (All-cons (λ (x : Fraction). IsNotAbove x top) b [] q (All-nil (λ (x : Fraction). IsNotAbove x top)));
  reached = at;
}

greatest_of_three : (top a b c : Fraction) → IsNotAbove a top → IsNotAbove b top → IsNotAbove c top → (x : Fraction) × Contains (a ∷ b ∷ c ∷ []) x × IsSame x top → IsGreatest top (a ∷ b ∷ c ∷ [])
greatest_of_three top a b c p q r at =
    let P = λ (x : Fraction). IsNotAbove x top in
    record {
      bounds = All-cons P a (b ∷ c ∷ []) p (All-cons P b (c ∷ []) q (All-cons P c [] r (All-nil P)));
      reached = at;
    }

last_of_three : (a b c : Fraction) → Contains (a ∷ b ∷ c ∷ []) c
last_of_three a b c = Contains-append_right (a ∷ b ∷ []) (c ∷ []) c (Contains-head c [])

middle_of_three : (a b c : Fraction) → Contains (a ∷ b ∷ c ∷ []) b
middle_of_three a b c = Contains-append_right (a ∷ []) (b ∷ c ∷ []) b (Contains-head b (c ∷ []))

pub worked_uppers : UppersAreWorked
worked_uppers = record {
  open_part = (refl, greatest_of_three (over 4 1) (over 1 1) (over 7 2) (over 8 2) (omega (arith, ints)) (omega (arith, ints)) (omega (arith, ints)) (over 8 2, last_of_three (over 1 1) (over 7 2) (over 8 2), refl), reduced (over 4 1) refl);
  base = (refl, greatest_of_three (over 7 2) (over 1 1) (over 6 2) (over 7 2) (omega (arith, ints)) (omega (arith, ints)) (omega (arith, ints)) (over 7 2, last_of_three (over 1 1) (over 6 2) (over 7 2), refl), reduced (over 7 2) refl);
  empty_base = (refl, greatest_of_two (over 3 1) (over 3 1) (over 5 2) (omega (arith, ints)) (omega (arith, ints)) (over 3 1, Contains-head (over 3 1) (over 5 2 ∷ []), refl), reduced (over 3 1) refl);
  both_fixed = (refl, greatest_of_three (over 5 4) (over 1 1) (over 5 4) (over 1 2) (omega (arith, ints)) (omega (arith, ints)) (omega (arith, ints)) (over 5 4, middle_of_three (over 1 1) (over 5 4) (over 1 2), refl), reduced (over 5 4) refl);
  steps = refl;
  rest = refl;
  sum = refl;
  priors = refl;
  nothing = refl;
}
