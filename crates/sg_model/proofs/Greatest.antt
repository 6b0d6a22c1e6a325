-- The greatest of a list, tests of each item, and sums over a filter.
use Rattle.std.proofs.Common.{◌≡◌, ◌≢◌, Bool, ◌||◌, sym, true≢false, true, false, cond, List, [], ◌∷◌, ℤ, pos, ◌+ℤ◌, ◌≤ℤ◌, ◌<ℤ◌, refl, arith, ◌⊎◌, inl, inr}
use Rattle.std.specs.List.{All, Contains, filter}
use Rattle.std.proofs.lemmas.Int.{ints, by_lt_z}
use Rattle.std.proofs.lemmas.List.Elements.{All-head, All-tail, All-nil, All-cons, Contains-append_right}
use Rattle.sg_model.specs.Sums.{total}

pub Contains-head : {X : Type 0} (x : X) (xs : List X) → Contains (x ∷ xs) x
Contains-head x xs = (0, omega arith, refl)

pub Contains-tail : {X : Type 0} (y : X) (xs : List X) (x : X) → Contains xs x → Contains (y ∷ xs) x
Contains-tail y xs x h = Contains-append_right (y ∷ []) xs x h

-- either some item has f at least g, or each has f below g
pub some_or_none : {X : Type 0} (f g : X → ℤ) (xs : List X) → ((x : X) × Contains xs x × (g x ≤ℤ f x)) ⊎ All (λ x. f x <ℤ g x) xs
some_or_none f g [] = inr (All-nil (λ x. f x <ℤ g x))
some_or_none f g (x ∷ xs) =
    by_lt_z (f x) (g x)
    (λ lt. elim (some_or_none f g xs) [ inl p ↦ inl (p.0, Contains-tail x xs p.0 p.1, p.2) | inr all ↦ inr (All-cons (λ x. f x <ℤ g x) x xs lt all) ])
    (λ le. inl (x, Contains-head x xs, le))

-- a sum over a filter of what is never negative
pub total-filter-le : {X : Type 0} (f : X → ℤ) (p : X → Bool) (xs : List X) → All (λ x. pos 0 ≤ℤ f x) xs → total f (filter p xs) ≤ℤ total f xs
total-filter-le f p [] h = omega (arith, ints)
total-filter-le f p (x ∷ xs) h =
    let here = All-head (λ x. pos 0 ≤ℤ f x) x xs h in
    let rest = total-filter-le f p xs (All-tail (λ x. pos 0 ≤ℤ f x) x xs h) in
    elim (p x) as (λ b. total f (cond b (x ∷ filter p xs) (filter p xs)) ≤ℤ (f x +ℤ total f xs)) [ true ↦ omega (arith, ints, rest) | false ↦ omega (arith, ints, rest, here) ]

pub total-lt : {X : Type 0} (f g : X → ℤ) (xs : List X) → xs ≢ [] → All (λ x. f x <ℤ g x) xs → total f xs <ℤ total g xs
total-lt f g [] some h = absurd (some refl)
total-lt f g (x ∷ []) some h = omega (arith, ints, All-head (λ x. f x <ℤ g x) x [] h)
total-lt f g (x ∷ y ∷ ys) some h =
    omega (arith, ints, All-head (λ x. f x <ℤ g x) x (y ∷ ys) h, total-lt f g (y ∷ ys) (λ e. cc) (All-tail (λ x. f x <ℤ g x) x (y ∷ ys) h))

pub or-right : (a b : Bool) → b ≡ true → (a || b) ≡ true
or-right true b e = refl
or-right false b e = e

pub or-left : (a b : Bool) → a ≡ true → (a || b) ≡ true
or-left true b e = refl
or-left false b e = absurd (true≢false (sym e))
