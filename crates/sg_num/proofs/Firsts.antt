-- The first operation that does not fit.
use Rattle.std.proofs.Common.{◌≡◌, Bool, true, false, true≢false, sym, ◌∙◌, refl, ap, subst, List, [], ◌∷◌, ◌++◌, Some, None, Option}
use Rattle.std.specs.Prelude.{if◌then◌else◌, ℤ, All, IsTrue, map, Result, Ok, Err, IsOk}
use Rattle.std.proofs.lemmas.List.Elements.{All-nil, All-cons, All-head, All-tail}
use Rattle.sg_num.specs.declared.step.Wide.{Wide}
use Rattle.sg_num.specs.Exact.{Fits, and_then, fits, result_of}
use Rattle.sg_num.specs.Operations.{DoesFit, FormedIsFirst, ResultsFitWhereFormed, first_wide, formed, is_formed, value_of_step}

abbrev pub IsFirst : List Wide → Wide → Type 0
IsFirst steps w = (before : List Wide) × ((after : List Wide) × ((steps ≡ before ++ w ∷ after) × All DoesFit before × ¬ (DoesFit w)))

further : (step : Wide) (steps : List Wide) (w : Wide) → DoesFit step → IsFirst steps w → IsFirst (step ∷ steps) w
further step steps w h f = (step ∷ f.0, (f.1.0, (ap (λ (xs : List Wide). step ∷ xs) f.1.1.0, All-cons DoesFit step f.0 h f.1.1.1, f.1.1.2)))

does_not : (t : Bool) → t ≡ false → ¬ (IsTrue t)
does_not t h k = cc

first_here : (step : Wide) (steps : List Wide) (w : Wide) → ¬ (DoesFit step) → step ≡ w → IsFirst (step ∷ steps) w
first_here step steps w h e = subst (λ x. IsFirst (step ∷ steps) x) e ([], (steps, (refl, All-nil DoesFit, h)))

pub first_wide-first : (steps : List Wide) (w : Wide) → first_wide steps ≡ Some w → IsFirst steps w
first_wide-first [] w e = absurd (cc)
first_wide-first (step ∷ steps) w e = go (first_wide-first steps w) (fits (result_of step.op step.left step.right)) refl e
  where
    go : (first_wide steps ≡ Some w → IsFirst steps w) → (t : Bool) → fits (result_of step.op step.left step.right) ≡ t → (if t then first_wide steps else Some step) ≡ Some w → IsFirst (step ∷ steps) w
    go rec true h e = further step steps w h (rec e)
    go rec false h e = first_here step steps w (does_not (fits (result_of step.op step.left step.right)) h) (cc)

pub first_wide-none : (steps : List Wide) → first_wide steps ≡ None → All DoesFit steps
first_wide-none [] e = All-nil DoesFit
first_wide-none (step ∷ steps) e = go (first_wide-none steps) (fits (result_of step.op step.left step.right)) refl e
  where
    go : (first_wide steps ≡ None → All DoesFit steps) → (t : Bool) → fits (result_of step.op step.left step.right) ≡ t → (if t then first_wide steps else Some step) ≡ None → All DoesFit (step ∷ steps)
    go rec true h e = All-cons DoesFit step steps h (rec e)
    go rec false h e = absurd (cc)

pub formed-first : FormedIsFirst
formed-first [] value = (λ e. refl, λ w e. absurd (cc))
formed-first (step ∷ steps) value = go (formed-first steps value) (fits (result_of step.op step.left step.right))
  where
    go : (first_wide steps ≡ None → formed steps value ≡ Ok value) × ((w : Wide) → first_wide steps ≡ Some w → formed steps value ≡ Err w)
        → (t : Bool) → ((if t then first_wide steps else Some step) ≡ None → (if t then formed steps value else Err step) ≡ Ok value)
        × ((w : Wide) → (if t then first_wide steps else Some step) ≡ Some w → (if t then formed steps value else Err step) ≡ Err w)
    go rec true = rec
    go rec false = (λ e. absurd (cc), λ w e. cc)

-- a value formed by two lists of operations, one after the other
pub formed-append : {A B : Type 0} (xs ys : List Wide) (v : A) (w : B) → formed (xs ++ ys) w ≡ and_then (formed xs v) (λ _. formed ys w)
formed-append [] ys v w = refl
formed-append (x ∷ xs) ys v w =
    elim (is_formed x) as (λ b. (if b then formed (xs ++ ys) w else Err x) ≡ and_then (if b then formed xs v else Err x) (λ _. formed ys w)) [
      | true ↦ formed-append xs ys v w
      | false ↦ refl
    ]

-- what fits is formed, and the other way round
fit-formed : (steps : List Wide) (value : ℤ) → All Fits (map value_of_step steps) → IsOk (formed steps value)
fit-formed [] value h = refl
fit-formed (x ∷ xs) value h =
    let here = All-head Fits (value_of_step x) (map value_of_step xs) h in
    let rest = fit-formed xs value (All-tail Fits (value_of_step x) (map value_of_step xs) h) in
    by (is_formed x) here rest
  where
    by : (b : Bool) → b ≡ true → IsOk (formed xs value) → IsOk (if b then formed xs value else Err x)
    by true e r = r
    by false e r = cc

formed-fit : (steps : List Wide) (value : ℤ) → IsOk (formed steps value) → All Fits (map value_of_step steps)
formed-fit [] value h = All-nil Fits
formed-fit (x ∷ xs) value h = by (is_formed x) refl h (formed-fit xs value)
  where
    by : (b : Bool) → is_formed x ≡ b → IsOk (if b then formed xs value else Err x) → (IsOk (formed xs value) → All Fits (map value_of_step xs)) → All Fits (map value_of_step (x ∷ xs))
    by true e r rest = All-cons Fits (value_of_step x) (map value_of_step xs) e (rest r)
    by false e r rest = absurd (true≢false (sym r))

pub results-fit : ResultsFitWhereFormed
results-fit steps value = (fit-formed steps value, formed-fit steps value)
