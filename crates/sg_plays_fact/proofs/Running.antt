-- Running sums: whether all of them fit, and the last one.
use Rattle.std.proofs.Common.{◌≡◌, ◌∙◌, ℕ, ◌+◌, ◌<◌, ◌≤◌, List, [], ◌∷◌, length, map, drop, get_or, ℤ, pos, ◌+ℤ◌, ap, sym, subst, refl, arith}
use Rattle.std.proofs.lemmas.List.{drop_all, drop_more}
use Rattle.std.specs.List.{All}
use Rattle.std.proofs.lemmas.Int.{ints}
use Rattle.std.proofs.lemmas.List.Elements.{All-nil, All-cons, All-head, All-tail}
use Rattle.sg_model.specs.Sums.{total}
use Rattle.sg_bounds.specs.Sizes.{running}
use Rattle.sg_num.specs.Exact.{Fits}

-- after some of the numbers the sum is z, and the others are left: the sums of all fit where the rest's do, and the totals agree
pub record IsRunning (all : List ℤ) (z : ℤ) (rest : List ℤ) : Type 0 where
  pub back : All Fits (running z rest) → All Fits (running (pos 0) all)
  pub on : All Fits (running (pos 0) all) → All Fits (running z rest)
  pub sum : z +ℤ total (λ x. x) rest ≡ total (λ x. x) all

pub running-more : (all : List ℤ) (z x : ℤ) (rest : List ℤ) → IsRunning all z (x ∷ rest) → Fits (z +ℤ x) → IsRunning all (z +ℤ x) rest
running-more all z x rest h fit = record {
  back = λ k. h.back (All-cons Fits (z +ℤ x) (running (z +ℤ x) rest) fit k);
  on = λ k. All-tail Fits (z +ℤ x) (running (z +ℤ x) rest) (h.on k);
  sum = omega (arith, ints, h.sum);
}

pub running-wide : (all : List ℤ) (z x : ℤ) (rest : List ℤ) → IsRunning all z (x ∷ rest) → (Fits (z +ℤ x) → ⊥) → All Fits (running (pos 0) all) → ⊥
running-wide all z x rest h wide k = wide (All-head Fits (z +ℤ x) (running (z +ℤ x) rest) (h.on k))

-- ---- over the items of a list

pub running-item : {X : Type 0} (f : X → ℤ) (xs : List X) (i : ℕ) (x : X) (z more : ℤ) → i < length xs → x ≡ get_or xs i x
    → IsRunning (map f xs) z (map f (drop i xs)) → Fits (z +ℤ f x) → more ≡ z +ℤ f x → IsRunning (map f xs) more (map f (drop (i + 1) xs))
running-item f xs i x z more lt is h fit e =
    let at : drop i xs ≡ x ∷ drop (i + 1) xs = drop_more xs i x lt ∙ ap (λ y. y ∷ drop (i + 1) xs) (sym is) in
    let now = subst (λ ys. IsRunning (map f xs) z (map f ys)) at h in
    subst (λ s. IsRunning (map f xs) s (map f (drop (i + 1) xs))) (sym e) (running-more (map f xs) z (f x) (map f (drop (i + 1) xs)) now fit)

pub running-wide_item : {X : Type 0} (f : X → ℤ) (xs : List X) (i : ℕ) (x : X) (z : ℤ) → i < length xs → x ≡ get_or xs i x
    → IsRunning (map f xs) z (map f (drop i xs)) → (Fits (z +ℤ f x) → ⊥) → All Fits (running (pos 0) (map f xs)) → ⊥
running-wide_item f xs i x z lt is h wide =
    let at : drop i xs ≡ x ∷ drop (i + 1) xs = drop_more xs i x lt ∙ ap (λ y. y ∷ drop (i + 1) xs) (sym is) in
    running-wide (map f xs) z (f x) (map f (drop (i + 1) xs)) (subst (λ ys. IsRunning (map f xs) z (map f ys)) at h) wide

pub total-map : {X : Type 0} (f : X → ℤ) (xs : List X) → total (λ x. x) (map f xs) ≡ total f xs
total-map f [] = refl
total-map f (x ∷ xs) = ap (λ z. f x +ℤ z) (total-map f xs)

pub running-end : {X : Type 0} (f : X → ℤ) (xs : List X) (i : ℕ) (z : ℤ) → length xs ≤ i
    → IsRunning (map f xs) z (map f (drop i xs)) → All Fits (running (pos 0) (map f xs)) × (z ≡ total f xs)
running-end f xs i z le h =
    let now = subst (λ ys. IsRunning (map f xs) z (map f ys)) (drop_all i xs le) h in
    (now.back (All-nil Fits), omega (arith, ints, now.sum, total-map f xs))
