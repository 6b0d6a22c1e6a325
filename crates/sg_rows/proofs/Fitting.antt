-- Lists of operations that all fit.
use Rattle.std.proofs.Common.{◌≡◌, ℕ, zero, suc, ◌+◌, ◌<◌, Bool, true, false, cond, List, [], ◌∷◌, ◌++◌, flat_map, length, refl, arith, sym, ◌∙◌, subst, Option, Some, None, Result, Ok, Err}
use Rattle.std.specs.List.{range_with_len}
use Rattle.std.specs.Prelude.{ℤ, ◌-ℤ◌, ◌*ℤ◌, FitsSigned}
use Rattle.std.specs.Int.{w128}
use Rattle.sg_num.specs.declared.step.Wide.{Wide}
use Rattle.sg_num.proofs.Steps.{FitsSigned-from_fits}
use Rattle.sg_num.specs.Exact.{and_then}
use Rattle.sg_num.specs.Operations.{first_wide, formed, is_formed, minus, times}
use Rattle.sg_rows.specs.Rows.{combine_steps, place}

-- the first of a list that fits is formed, and so is the rest
pub head-fits : (w : Wide) (ws : List Wide) → first_wide (w ∷ ws) ≡ None → is_formed w ≡ true
head-fits w ws e = go (is_formed w) e
  where
    go : (t : Bool) → ◌≡◌ {A = Option Wide} (cond t (first_wide ws) (Some w)) None → t ≡ true
    go true e = refl
    go false e = cc

pub tail-fits : (w : Wide) (ws : List Wide) → first_wide (w ∷ ws) ≡ None → first_wide ws ≡ None
tail-fits w ws e = go (is_formed w) e
  where
    go : (t : Bool) → ◌≡◌ {A = Option Wide} (cond t (first_wide ws) (Some w)) None → first_wide ws ≡ None
    go true e = e
    go false e = cc

pub fits-cons : (w : Wide) (ws : List Wide) → is_formed w ≡ true → first_wide ws ≡ None → first_wide (w ∷ ws) ≡ None
fits-cons w ws h e = rw h e

-- what fits at one place
pub record FitAt (p q x y : ℤ) : Type 0 where
  pub left : FitsSigned w128 (x *ℤ p)
  pub right : FitsSigned w128 (q *ℤ y)
  pub difference : FitsSigned w128 ((x *ℤ p) -ℤ (q *ℤ y))

pub fit_at : (p q x y : ℤ) (rest : List Wide) → first_wide (times x p ∷ times q y ∷ minus (x *ℤ p) (q *ℤ y) ∷ rest) ≡ None → FitAt p q x y
fit_at p q x y rest e =
    let l = times x p in
    let r = times q y in
    let d = minus (x *ℤ p) (q *ℤ y) in
    let e1 = tail-fits l (r ∷ d ∷ rest) e in
    let e2 = tail-fits r (d ∷ rest) e1 in
    record {
      left = FitsSigned-from_fits (x *ℤ p) (head-fits l (r ∷ d ∷ rest) e);
      right = FitsSigned-from_fits (q *ℤ y) (head-fits r (d ∷ rest) e1);
      difference = FitsSigned-from_fits ((x *ℤ p) -ℤ (q *ℤ y)) (head-fits d rest e2);
    }

-- where all places of two rows fit, each does
pub combination-fits_at : (p q : ℤ) (xs ys : List ℤ) (j : ℕ) → length xs ≡ length ys → j < length xs → first_wide (combine_steps p q xs ys) ≡ None → first_wide (combine_steps p q (place xs j ∷ []) (place ys j ∷ [])) ≡ None
combination-fits_at p q [] ys j same h e = absurd (omega arith)
combination-fits_at p q (x ∷ xs) [] j same h e = absurd (omega arith)
combination-fits_at p q (x ∷ xs) (y ∷ ys) zero same h e = first (combine_steps p q xs ys) e
  where
    first : (rest : List Wide) → first_wide (times x p ∷ times q y ∷ minus (x *ℤ p) (q *ℤ y) ∷ rest) ≡ None → first_wide (times x p ∷ times q y ∷ minus (x *ℤ p) (q *ℤ y) ∷ []) ≡ None
    first rest e =
        let l = times x p in
        let r = times q y in
        let d = minus (x *ℤ p) (q *ℤ y) in
        let e1 = tail-fits l (r ∷ d ∷ rest) e in
        let e2 = tail-fits r (d ∷ rest) e1 in
        fits-cons l (r ∷ d ∷ []) (head-fits l (r ∷ d ∷ rest) e) (fits-cons r (d ∷ []) (head-fits r (d ∷ rest) e1) (fits-cons d [] (head-fits d rest e2) refl))
combination-fits_at p q (x ∷ xs) (y ∷ ys) (suc j) same h e =
    combination-fits_at p q xs ys j (omega arith) (omega arith)
    (tail-fits (minus (x *ℤ p) (q *ℤ y)) (combine_steps p q xs ys) (tail-fits (times q y) (minus (x *ℤ p) (q *ℤ y) ∷ combine_steps p q xs ys) (tail-fits (times x p) (times q y ∷ minus (x *ℤ p) (q *ℤ y) ∷ combine_steps p q xs ys) e)))

-- a list of operations from whose value nothing stops has none that doesn't fit
pub Ok-fits : {A : Type 0} (steps : List Wide) (v u : A) → Ok u ≡ formed steps v → first_wide steps ≡ None
Ok-fits {A} [] v u e = refl
Ok-fits {A} (s ∷ ss) v u e = go (is_formed s) (λ q. Ok-fits ss v u q) e
  where
    go : (t : Bool) → (Ok u ≡ formed ss v → first_wide ss ≡ None) → ◌≡◌ {A = Result A Wide} (Ok u) (cond t (formed ss v) (Err s)) → cond t (first_wide ss) (Some s) ≡ None
    go true rec q = rec q
    go false rec q = cc

-- what is appended fits where both parts do, and stops where the first does
pub first_wide-append_fits : (xs ys : List Wide) → first_wide xs ≡ None → first_wide (xs ++ ys) ≡ first_wide ys
first_wide-append_fits [] ys e = refl
first_wide-append_fits (s ∷ ss) ys e = go (is_formed s) (λ q. first_wide-append_fits ss ys q) e
  where
    go : (t : Bool) → (first_wide ss ≡ None → first_wide (ss ++ ys) ≡ first_wide ys) → ◌≡◌ {A = Option Wide} (cond t (first_wide ss) (Some s)) None → cond t (first_wide (ss ++ ys)) (Some s) ≡ first_wide ys
    go true rec q = rec q
    go false rec q = cc

pub first_wide-append_stops : (xs ys : List Wide) (w : Wide) → first_wide xs ≡ Some w → first_wide (xs ++ ys) ≡ Some w
first_wide-append_stops [] ys w e = cc
first_wide-append_stops (s ∷ ss) ys w e = go (is_formed s) (λ q. first_wide-append_stops ss ys w q) e
  where
    go : (t : Bool) → (first_wide ss ≡ Some w → first_wide (ss ++ ys) ≡ Some w) → ◌≡◌ {A = Option Wide} (cond t (first_wide ss) (Some s)) (Some w) → cond t (first_wide (ss ++ ys)) (Some s) ≡ Some w
    go true rec q = rec q
    go false rec q = q

pub front-fits : (xs ys : List Wide) → first_wide (xs ++ ys) ≡ None → first_wide xs ≡ None
front-fits [] ys e = refl
front-fits (s ∷ ss) ys e = fits-cons s ss (head-fits s (ss ++ ys) e) (front-fits ss ys (tail-fits s (ss ++ ys) e))

pub back-fits : (xs ys : List Wide) → first_wide (xs ++ ys) ≡ None → first_wide ys ≡ None
back-fits xs ys e = sym (first_wide-append_fits xs ys (front-fits xs ys e)) ∙ e

-- each part of lists of operations, by number from a on, fits where all do
pub part-fits : (f : ℕ → List Wide) (a n k j : ℕ) → k < n → a + k ≡ j → first_wide (flat_map f (range_with_len a n)) ≡ None → first_wide (f j) ≡ None
part-fits f a zero k j h is e = absurd (omega arith)
part-fits f a (suc n) zero j h is e = let same : a ≡ j = omega arith in subst (λ (i : ℕ). first_wide (f i) ≡ None) same (front-fits (f a) (flat_map f (range_with_len (a + 1) n)) e)
part-fits f a (suc n) (suc k) j h is e = part-fits f (a + 1) n k j (omega arith) (omega arith) (back-fits (f a) (flat_map f (range_with_len (a + 1) n)) e)

-- the value of appended lists of operations
pub formed-append : {A : Type 0} (xs ys : List Wide) (v : A) → formed (xs ++ ys) v ≡ and_then (formed xs v) (λ _. formed ys v)
formed-append {A} [] ys v = refl
formed-append {A} (s ∷ ss) ys v = go (is_formed s) (formed-append ss ys v)
  where
    go : (t : Bool) → formed (ss ++ ys) v ≡ and_then (formed ss v) (λ _. formed ys v) → cond t (formed (ss ++ ys) v) (Err s) ≡ and_then (cond t (formed ss v) (Err s)) (λ _. formed ys v)
    go true rec = rec
    go false rec = refl

-- what stops the value is the first that doesn't fit
pub Err-stops : {A : Type 0} (steps : List Wide) (v : A) (w : Wide) → Err w ≡ formed steps v → first_wide steps ≡ Some w
Err-stops {A} [] v w e = cc
Err-stops {A} (s ∷ ss) v w e = go (is_formed s) (λ q. Err-stops ss v w q) e
  where
    go : (t : Bool) → (Err w ≡ formed ss v → first_wide ss ≡ Some w) → ◌≡◌ {A = Result A Wide} (Err w) (cond t (formed ss v) (Err s)) → cond t (first_wide ss) (Some s) ≡ Some w
    go true rec q = rec q
    go false rec q = cc

pub Ok-value : {A : Type 0} (steps : List Wide) (v u : A) → Ok u ≡ formed steps v → u ≡ v
Ok-value {A} [] v u e = cc
Ok-value {A} (s ∷ ss) v u e = go (is_formed s) (λ q. Ok-value ss v u q) e
  where
    go : (t : Bool) → (Ok u ≡ formed ss v → u ≡ v) → ◌≡◌ {A = Result A Wide} (Ok u) (cond t (formed ss v) (Err s)) → u ≡ v
    go true rec q = rec q
    go false rec q = cc

pub fits-formed : {A : Type 0} (steps : List Wide) (v : A) → first_wide steps ≡ None → formed steps v ≡ Ok v
fits-formed {A} [] v e = refl
fits-formed {A} (s ∷ ss) v e = go (is_formed s) (λ q. fits-formed ss v q) e
  where
    go : (t : Bool) → (first_wide ss ≡ None → formed ss v ≡ Ok v) → ◌≡◌ {A = Option Wide} (cond t (first_wide ss) (Some s)) None → cond t (formed ss v) (Err s) ≡ Ok v
    go true rec q = rec q
    go false rec q = cc
