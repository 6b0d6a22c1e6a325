-- Sums over what passes a test in what is left of a list, and lists mapped from the front.
use Rattle.std.proofs.Common.{◌≡◌, ℕ, suc, ◌+◌, ◌-◌, ◌<◌, ◌≤◌, Bool, cond, true, false, List, ◌∷◌, ℤ, pos, ◌+ℤ◌, refl, arith, sym, ◌∙◌, map, [], ◌++◌, length, drop, get_or, append_assoc, append-nil}
use Rattle.std.specs.List.{filter}
use Rattle.std.proofs.lemmas.Int.{ints}
use Rattle.std.proofs.lemmas.List.{at_drop_more, at_drop_all}
use Rattle.sg_model.specs.Sums.{total, numbers, numbers_from}

one_more : {X : Type 0} (f : X → ℤ) (p : X → Bool) (x : X) (xs : List X) → total f (filter p (x ∷ xs)) ≡ cond (p x) (f x) (pos 0) +ℤ total f (filter p xs)
one_more {X = X} f p x xs = elim (p x) as (λ (b : Bool). total f (cond b (x ∷ filter p xs) (filter p xs)) ≡ cond b (f x) (pos 0) +ℤ total f (filter p xs)) [ true ↦ refl | false ↦ omega (arith, ints) ]

-- one item taken from what is left, and nothing left
pub left_more : {X : Type 0} (f : X → ℤ) (p : X → Bool) (xs : List X) (i : ℕ) (d : X) → i < length xs
    → total f (filter p (drop i xs)) ≡ cond (p (get_or xs i d)) (f (get_or xs i d)) (pos 0) +ℤ total f (filter p (drop (i + 1) xs))
left_more {X = X} f p xs i d h = at_drop_more (λ (ys : List X). total f (filter p ys)) xs i d h ∙ one_more f p (get_or xs i d) (drop (i + 1) xs)

pub left_none : {X : Type 0} (f : X → ℤ) (p : X → Bool) (xs : List X) (i : ℕ) → length xs ≤ i → total f (filter p (drop i xs)) ≡ pos 0
left_none {X = X} f p xs i h = at_drop_all (λ (ys : List X). total f (filter p ys)) xs i h

-- a list mapped from the front: nothing yet, one more, and all
pub map_none_yet : {A : Type 0} (f : ℕ → A) (m : ℕ) (done : List A) → done ≡ [] → map f (numbers m) ≡ done ++ map f (numbers_from (0 + 1) (m - 0))
map_none_yet {A = A} f m done none = let e : m - 0 ≡ m = omega arith in rw (e, none) refl

pub map_push : {A : Type 0} (f : ℕ → A) (i m : ℕ) (done more : List A) (z : A) → i < m → map f (numbers m) ≡ done ++ map f (numbers_from (i + 1) (m - i))
    → more ≡ done ++ z ∷ [] → z ≡ f (i + 1) → map f (numbers m) ≡ more ++ map f (numbers_from (i + 1 + 1) (m - (i + 1)))
map_push {A = A} f i m done more z h all push this =
    let e : m - i ≡ suc (m - (i + 1)) = omega arith in
    let whole = rw e at all in
    rw (push, this) (whole ∙ sym (append_assoc done (f (i + 1) ∷ []) (map f (numbers_from (i + 1 + 1) (m - (i + 1))))))

pub map_done : {A : Type 0} (f : ℕ → A) (i m : ℕ) (done : List A) → i ≡ m → map f (numbers m) ≡ done ++ map f (numbers_from (i + 1) (m - i)) → done ≡ map f (numbers m)
map_done {A = A} f i m done same all = let e : m - i ≡ 0 = omega (arith, same) in let whole = rw e at all in sym (whole ∙ append-nil done)
