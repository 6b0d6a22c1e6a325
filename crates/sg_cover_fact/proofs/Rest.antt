-- What is left of a number after some of the terms of a sum.
use Rattle.std.proofs.Common.{◌≡◌, ◌∙◌, ℕ, ◌+◌, ◌<◌, ◌≤◌, List, [], ◌∷◌, length, take, drop, get_or, sym, ap, arith}
use Rattle.std.specs.Prelude.{ℤ, pos, ◌+ℤ◌, ◌-ℤ◌, ◌≤ℤ◌, ◌<ℤ◌}
use Rattle.std.specs.List.{All}
use Rattle.std.proofs.lemmas.Int.{ints}
use Rattle.std.proofs.lemmas.List.{take_all, take_more, take-append-drop}
use Rattle.std.proofs.lemmas.List.Elements.{All-drop}
use Rattle.sg_model.specs.Sums.{total}
use Rattle.sg_model.proofs.Sums.{total-append, total-nonneg}

pub total-more : {X : Type 0} (f : X → ℤ) (xs : List X) (i : ℕ) (d : X) → i < length xs → total f (take (i + 1) xs) ≡ total f (take i xs) +ℤ f (get_or xs i d)
total-more f xs i d lt =
    ap (total f) (take_more xs i d lt) ∙ total-append f (take i xs) (get_or xs i d ∷ []) ∙ omega (arith, ints)

-- a front of terms that are nonnegative adds up to no more than all
pub total-front : {X : Type 0} (f : X → ℤ) (xs : List X) (i : ℕ) → All (λ x. pos 0 ≤ℤ f x) xs → total f (take i xs) ≤ℤ total f xs
total-front {X} f xs i nonneg =
    let e = ap (total f) (sym (take-append-drop i xs)) in
    let parts = total-append f (take i xs) (drop i xs) in
    let rest = total-nonneg f (drop i xs) (All-drop (λ (x : X). pos 0 ≤ℤ f x) i xs nonneg) in
    omega (arith, ints, e, parts, rest)

-- what is left of a number after the first i terms, which is not below 0
pub record IsLeft (f : ℕ → ℤ) (most left : ℤ) (xs : List ℕ) (i : ℕ) : Type 0 where
  pub value : left ≡ most -ℤ total f (take i xs)
  pub nonneg : pos 0 ≤ℤ left

pub left-more : (f : ℕ → ℤ) (most left sum next : ℤ) (xs : List ℕ) (i d : ℕ) → i < length xs → IsLeft f most left xs i → sum ≡ f (get_or xs i d) → next ≡ left -ℤ sum → sum ≤ℤ left → IsLeft f most next xs (i + 1)
left-more f most left sum next xs i d lt h es en le =
    let more = total-more f xs i d lt in
    record { value = omega (arith, ints, h.value, es, en, more); nonneg = omega (arith, ints, en, le) }

pub left-all : (f : ℕ → ℤ) (most left : ℤ) (xs : List ℕ) (i : ℕ) → length xs ≤ i → IsLeft f most left xs i → total f xs ≤ℤ most
left-all f most left xs i le h =
    let e : total f (take i xs) ≡ total f xs = ap (total f) (take_all i xs le) in
    omega (arith, ints, h.value, h.nonneg, e)

-- a term above what is left
pub left-short : (f : ℕ → ℤ) (most left sum : ℤ) (xs : List ℕ) (i d : ℕ) → i < length xs → ((x : ℕ) → pos 0 ≤ℤ f x) → IsLeft f most left xs i → sum ≡ f (get_or xs i d) → left <ℤ sum → total f xs ≤ℤ most → ⊥
left-short f most left sum xs i d lt nonneg h es above le =
    let more = total-more f xs i d lt in
    let front = total-front f xs (i + 1) (λ k y in_list. nonneg (get_or xs k y)) in
    absurd (omega (arith, ints, h.value, es, more, front, above, le))
