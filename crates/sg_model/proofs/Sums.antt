-- Sums of whole numbers over lists.
use Rattle.std.proofs.Common.{◌≡◌, ℕ, ◌+◌, List, [], ◌∷◌, ◌++◌, ℤ, pos, ◌+ℤ◌, ◌-ℤ◌, ◌*ℤ◌, ◌≤ℤ◌, sym, ◌∙◌, ap, refl, arith}
use Rattle.std.specs.List.{All, sum_by}
use Rattle.std.specs.List.Sorted.{IsPermutation}
use Rattle.std.proofs.lemmas.Int.{ints}
use Rattle.std.proofs.lemmas.List.Elements.{All-head, All-tail}
use Rattle.std.proofs.lemmas.List.Sorted.{sum_by-IsPermutation}
use Rattle.std.proofs.lemmas.List.Sums.{sum_by-cons}
use borrow.Author.Differences.{up, down}
use Rattle.sg_model.specs.Sums.{total}
use Rattle.sg_model.proofs.Ints.{v, n, plus, times, same_by}

module _ {X : Type 0} (f : X → ℤ) where
  pub total-append : (xs ys : List X) → total f (xs ++ ys) ≡ total f xs +ℤ total f ys
  total-append [] ys = omega (arith, ints)
  total-append (x ∷ xs) ys = omega (arith, ints, total-append xs ys)

  pub total-scaled : (c : ℤ) (xs : List X) → total (λ x. c *ℤ f x) xs ≡ c *ℤ total f xs
  total-scaled c [] = same_by (n 0) (times (v c) (n 0)) (omega arith)
  total-scaled c (x ∷ xs) = ap (λ (z : ℤ). (c *ℤ f x) +ℤ z) (total-scaled c xs) ∙ same_by (plus (times (v c) (v (f x))) (times (v c) (v (total f xs)))) (times (v c) (plus (v (f x)) (v (total f xs)))) (omega arith)

module _ {X : Type 0} (f g : X → ℤ) where
  pub total-add : (xs : List X) → total (λ x. f x +ℤ g x) xs ≡ total f xs +ℤ total g xs
  total-add [] = refl
  total-add (x ∷ xs) = omega (arith, ints, total-add xs)

  pub total-le : (xs : List X) → All (λ x. f x ≤ℤ g x) xs → total f xs ≤ℤ total g xs
  total-le [] h = omega (arith, ints)
  total-le (x ∷ xs) h = omega (arith, ints, All-head (λ x. f x ≤ℤ g x) x xs h, total-le xs (All-tail (λ x. f x ≤ℤ g x) x xs h))

  pub total-same : (xs : List X) → All (λ x. f x ≡ g x) xs → total f xs ≡ total g xs
  total-same [] h = refl
  total-same (x ∷ xs) h = omega (arith, ints, All-head (λ x. f x ≡ g x) x xs h, total-same xs (All-tail (λ x. f x ≡ g x) x xs h))

pub total-zero : {X : Type 0} (xs : List X) → total (λ x. pos 0) xs ≡ pos 0
total-zero [] = refl
total-zero (x ∷ xs) = omega (arith, ints, total-zero xs)

-- two sums exchanged
pub total-exchange : {X Y : Type 0} (f : X → Y → ℤ) (xs : List X) (ys : List Y) → total (λ x. total (f x) ys) xs ≡ total (λ y. total (λ x. f x y) xs) ys
total-exchange f [] ys = sym (total-zero ys)
total-exchange f (x ∷ xs) ys =
    ap (λ (z : ℤ). total (f x) ys +ℤ z) (total-exchange f xs ys) ∙ sym (total-add (f x) (λ y. total (λ x. f x y) xs) ys)

pub total-nonneg : {X : Type 0} (f : X → ℤ) (xs : List X) → All (λ x. pos 0 ≤ℤ f x) xs → pos 0 ≤ℤ total f xs
total-nonneg f [] h = omega (arith, ints)
total-nonneg f (x ∷ xs) h = omega (arith, ints, All-head (λ x. pos 0 ≤ℤ f x) x xs h, total-nonneg f xs (All-tail (λ x. pos 0 ≤ℤ f x) x xs h))

-- a sum as a difference of two sums over ℕ
total-parts : {X : Type 0} (f : X → ℤ) (xs : List X) → total f xs ≡ pos (sum_by (λ x. up (f x)) xs) -ℤ pos (sum_by (λ x. down (f x)) xs)
total-parts f [] = refl
total-parts f (x ∷ xs) =
    let a = sum_by-cons (λ x. up (f x)) x xs in
    let b = sum_by-cons (λ x. down (f x)) x xs in
    let e : f x +ℤ total f xs ≡ pos (up (f x) + sum_by (λ x. up (f x)) xs) -ℤ pos (down (f x) + sum_by (λ x. down (f x)) xs) = omega (arith, ints, total-parts f xs) in
    e ∙ (ap (λ (k : ℕ). pos k -ℤ pos (down (f x) + sum_by (λ x. down (f x)) xs)) (sym a) ∙ ap (λ (k : ℕ). pos (sum_by (λ x. up (f x)) (x ∷ xs)) -ℤ pos k) (sym b))

-- a sum is the same in another order
pub total-IsPermutation : {X : Type 0} (f : X → ℤ) (xs ys : List X) → IsPermutation xs ys → total f ys ≡ total f xs
total-IsPermutation f xs ys h =
    omega (arith, ints, total-parts f xs, total-parts f ys, sum_by-IsPermutation (λ x. up (f x)) xs ys h, sum_by-IsPermutation (λ x. down (f x)) xs ys h)
