-- The ends of two lists of payoffs, one after the other.
use Rattle.std.proofs.Common.{◌≡◌, ◌≢◌, ◌∙◌, ℕ, ◌+◌, List, [], ◌∷◌, ◌++◌, map, ℤ, refl, ap, sym, arith}
use Rattle.std.specs.Int.{int_max, int_min}
use Rattle.std.specs.List.{fold, flat_map}
use Rattle.std.proofs.lemmas.Int.{int_max_is, int_min_is, ints}
use Rattle.std.proofs.lemmas.Grind.{flat_map-append}
use Rattle.std.proofs.lemmas.List.{map_push}
use Rattle.sg_model.specs.Sums.{greatest, least, numbers}
use Rattle.sg_game.specs.Spreads.{AreEnds}
use Rattle.sg_game.proofs.Patrols.{numbers-more}

max_assoc : (x y z : ℤ) → int_max (int_max x y) z ≡ int_max x (int_max y z)
max_assoc x y z = omega (arith, ints, int_max_is x y, int_max_is (int_max x y) z, int_max_is y z, int_max_is x (int_max y z))

min_assoc : (x y z : ℤ) → int_min (int_min x y) z ≡ int_min x (int_min y z)
min_assoc x y z = omega (arith, ints, int_min_is x y, int_min_is (int_min x y) z, int_min_is y z, int_min_is x (int_min y z))

max-fold : (a b : ℤ) (xs : List ℤ) → fold int_max (int_max a b) xs ≡ int_max a (fold int_max b xs)
max-fold a b [] = refl
max-fold a b (x ∷ xs) = rw (max_assoc a b x) (max-fold a (int_max b x) xs)

min-fold : (a b : ℤ) (xs : List ℤ) → fold int_min (int_min a b) xs ≡ int_min a (fold int_min b xs)
min-fold a b [] = refl
min-fold a b (x ∷ xs) = rw (min_assoc a b x) (min-fold a (int_min b x) xs)

fold-append : (f : ℤ → ℤ → ℤ) (a : ℤ) (xs ys : List ℤ) → fold f a (xs ++ ys) ≡ fold f (fold f a xs) ys
fold-append f a [] ys = refl
fold-append f a (x ∷ xs) ys = fold-append f (f a x) xs ys

pub greatest-append : (xs ys : List ℤ) → xs ≢ [] → ys ≢ [] → greatest (xs ++ ys) ≡ int_max (greatest xs) (greatest ys)
greatest-append [] ys h i = absurd (h refl)
greatest-append (x ∷ xs) [] h i = absurd (i refl)
greatest-append (x ∷ xs) (y ∷ ys) h i = fold-append int_max x xs (y ∷ ys) ∙ max-fold (fold int_max x xs) y ys

pub least-append : (xs ys : List ℤ) → xs ≢ [] → ys ≢ [] → least (xs ++ ys) ≡ int_min (least xs) (least ys)
least-append [] ys h i = absurd (h refl)
least-append (x ∷ xs) [] h i = absurd (i refl)
least-append (x ∷ xs) (y ∷ ys) h i = fold-append int_min x xs (y ∷ ys) ∙ min-fold (fold int_min x xs) y ys

pub append-some : (xs ys : List ℤ) → xs ≢ [] → (xs ++ ys) ≢ []
append-some [] ys h = absurd (h refl)
append-some (x ∷ xs) ys h = (λ e. cc)

append_nil : {X : Type 0} (xs : List X) → xs ++ [] ≡ xs
append_nil [] = refl
append_nil (x ∷ xs) = ap (λ ys. x ∷ ys) (append_nil xs)

pub lists-more : (f : ℕ → List ℤ) (k : ℕ) → flat_map f (numbers (k + 1)) ≡ flat_map f (numbers k) ++ f (k + 1)
lists-more f k =
    ap (flat_map f) (numbers-more k) ∙ (flat_map-append f (numbers k) ((k + 1) ∷ []) ∙ ap (λ (ys : List ℤ). flat_map f (numbers k) ++ ys) (append_nil (f (k + 1))))

pub items-more : (f : ℕ → ℤ) (k : ℕ) → map f (numbers (k + 1)) ≡ map f (numbers k) ++ f (k + 1) ∷ []
items-more f k = ap (map f) (numbers-more k) ∙ map_push f (numbers k) (k + 1)

-- the ends of both
pub joined : (a b c d low high : ℤ) → low ≡ int_min a c → high ≡ int_max b d → (xs ys : List ℤ) → AreEnds a b xs → AreEnds c d ys → AreEnds low high (xs ++ ys)
joined a b c d low high e f xs ys h i =
    let lower = int_min_is a c in
    let higher = int_max_is b d in
    record {
      some = append-some xs ys h.some;
      least = e ∙ (rw (h.least, i.least) (sym (least-append xs ys h.some i.some)));
      greatest = f ∙ (rw (h.greatest, i.greatest) (sym (greatest-append xs ys h.some i.some)));
      low_range = record { at_least = omega (arith, ints, e, lower, h.low_range.at_least, i.low_range.at_least); at_most = omega (arith, ints, e, lower, h.low_range.at_most, i.low_range.at_most) };
      high_range = record { at_least = omega (arith, ints, f, higher, h.high_range.at_least, i.high_range.at_least); at_most = omega (arith, ints, f, higher, h.high_range.at_most, i.high_range.at_most) };
    }
