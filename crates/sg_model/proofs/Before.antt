-- The order of lists: the test by comparing, and lists that rise.
use Rattle.std.proofs.Common.{◌≡◌, ◌≢◌, ◌⊎◌, ℕ, zero, suc, ◌+◌, ◌<◌, Bool, true, false, true≢false, List, [], ◌∷◌, ◌++◌, map, sym, ◌∙◌, ap, refl, arith, slice_index_or, flat_map, inl, inr}
use Rattle.std.specs.List.{All, AllPairs}
use Rattle.std.specs.Ordering.{nat_cmp, is_lt, ordering_then}
use Rattle.std.specs.declared.cmp.Ordering.{Ordering}
use Rattle.std.specs.declared.cmp.Ordering.TheVariants.{Less, Equal, Greater}
use Rattle.std.specs.Cmp.{nat_cmp_is}
use Rattle.std.specs.Cmp.Lexicographic.{slice_cmp}
use Rattle.std.proofs.lemmas.Bool.{cases_order}
use Rattle.std.proofs.lemmas.List.Elements.{All-append, All-map}
use Rattle.std.proofs.lemmas.List.Kept.{AllPairs-cons}
use Rattle.sg_model.specs.Sums.{numbers_from}
use Rattle.sg_model.specs.Orders.{IsBefore, TestIsOrder, is_before}
use Rattle.sg_model.proofs.Lists.{All-flat_map}
use Rattle.sg_model.proofs.Numbers.{All-numbers_from}

-- ---- the test

less : (x y : ℕ) → x < y → nat_cmp x y ≡ Less
less x y h = sym (nat_cmp_is x y Less h)

equal : (x y : ℕ) → x ≡ y → nat_cmp x y ≡ Equal
equal x y h = sym (nat_cmp_is x y Equal h)

greater : (x y : ℕ) → y < x → nat_cmp x y ≡ Greater
greater x y h = sym (nat_cmp_is x y Greater h)

tested-then : (o p : Ordering) (r : Ordering) → o ≡ r → is_lt (ordering_then o p) ≡ is_lt (ordering_then r p)
tested-then o p r e = ap (λ (q : Ordering). is_lt (ordering_then q p)) e

is_before-so : (xs ys : List ℕ) → IsBefore xs ys → is_before xs ys ≡ true
is_before-so xs [] h = absurd h
is_before-so [] (y ∷ ys) h = refl
is_before-so (x ∷ xs) (y ∷ ys) (inl h) = tested-then (nat_cmp x y) (slice_cmp nat_cmp xs ys) Less (less x y h)
is_before-so (x ∷ xs) (y ∷ ys) (inr h) = tested-then (nat_cmp x y) (slice_cmp nat_cmp xs ys) Equal (equal x y h.0) ∙ is_before-so xs ys h.1

so-is_before : (xs ys : List ℕ) → is_before xs ys ≡ true → IsBefore xs ys
so-is_before [] [] h = absurd (true≢false (sym h))
so-is_before (x ∷ xs) [] h = absurd (true≢false (sym h))
so-is_before [] (y ∷ ys) h = tt
so-is_before (x ∷ xs) (y ∷ ys) h =
    elim (cases_order x y) [
      | inl same ↦ inr (same, so-is_before xs ys (sym (tested-then (nat_cmp x y) (slice_cmp nat_cmp xs ys) Equal (equal x y same)) ∙ h))
      | inr (inl low) ↦ inl low
      | inr (inr high) ↦ absurd (true≢false (sym h ∙ tested-then (nat_cmp x y) (slice_cmp nat_cmp xs ys) Greater (greater x y high)))
    ]

pub test_is_order : TestIsOrder
test_is_order before after = (so-is_before before after, is_before-so before after)

-- a list does not come before itself
pub before-apart : (xs ys : List ℕ) → IsBefore xs ys → xs ≢ ys
before-apart xs ys h e = by xs ys h e
  where
    by : (xs ys : List ℕ) → IsBefore xs ys → xs ≡ ys → ⊥
    by xs [] h e = h
    by [] (y ∷ ys) h e = cc
    by (x ∷ xs) (y ∷ ys) (inl h) e = let same : x ≡ y = cc in absurd (omega (arith, h, same))
    by (x ∷ xs) (y ∷ ys) (inr h) e = by xs ys h.1 (cc)

-- ---- lists whose items rise

abbrev pub AreRising : List (List ℕ) → Type 0
AreRising xs = AllPairs IsBefore xs

pub pairs-none : {X : Type 0} (R : X → X → Type 0) → AllPairs R []
pairs-none R i j d before within = absurd (omega (arith, before, within))

pub pairs-tail : {X : Type 0} (R : X → X → Type 0) (x : X) (xs : List X) → AllPairs R (x ∷ xs) → AllPairs R xs
pairs-tail R x xs h i j d before within = h (suc i) (suc j) d (omega (arith, before)) (omega (arith, within))

pub pairs-head : {X : Type 0} (R : X → X → Type 0) (x : X) (xs : List X) → AllPairs R (x ∷ xs) → All (R x) xs
pairs-head R x xs h i d lt = h 0 (suc i) d (omega arith) (omega (arith, lt))

pub pairs-append : {X : Type 0} (R : X → X → Type 0) (xs ys : List X) → AllPairs R xs → AllPairs R ys → All (λ x. All (R x) ys) xs → AllPairs R (xs ++ ys)
pairs-append R [] ys h k apart = k
pairs-append R (x ∷ xs) ys h k apart =
    AllPairs-cons R x (xs ++ ys)
    (All-append (R x) xs ys (pairs-head R x xs h) (apart 0 x (omega arith)))
    (pairs-append R xs ys (pairs-tail R x xs h) k (λ i d lt. apart (suc i) d (omega (arith, lt))))

pub pairs-map : {X Y : Type 0} (R : X → X → Type 0) (S : Y → Y → Type 0) (f : X → Y) → ((x y : X) → R x y → S (f x) (f y)) → (xs : List X) → AllPairs R xs → AllPairs S (map f xs)
pairs-map R S f keeps [] h = pairs-none S
pairs-map R S f keeps (x ∷ xs) h =
    AllPairs-cons S (f x) (map f xs)
    (All-map (S (f x)) f xs (λ i d lt. keeps x (slice_index_or xs i d) (pairs-head R x xs h i d lt)))
    (pairs-map R S f keeps xs (pairs-tail R x xs h))

pub pairs-weaken : {X : Type 0} (R S : X → X → Type 0) → ((x y : X) → R x y → S x y) → (xs : List X) → AllPairs R xs → AllPairs S xs
pairs-weaken R S keeps xs h i j d before within = keeps (slice_index_or xs i d) (slice_index_or xs j d) (h i j d before within)

-- ---- numbers in a row

abbrev pub Lesser : ℕ → ℕ → Type 0
Lesser a b = a < b

pub rise-numbers_from : (a n : ℕ) → AllPairs Lesser (numbers_from a n)
rise-numbers_from a zero = pairs-none Lesser
rise-numbers_from a (suc n) =
    AllPairs-cons Lesser a (numbers_from (a + 1) n) (All-numbers_from (Lesser a) (a + 1) n (λ t low high. omega (arith, low))) (rise-numbers_from (a + 1) n)

-- lists laid end to end, one for each number
pub pairs-flat_map : {X : Type 0} (R : X → X → Type 0) (f : ℕ → List X) → ((a : ℕ) → AllPairs R (f a)) → ((a b : ℕ) → a < b → All (λ x. All (R x) (f b)) (f a))
    → (a n : ℕ) → AllPairs R (flat_map f (numbers_from a n))
pairs-flat_map R f inner across a zero = pairs-none R
pairs-flat_map R f inner across a (suc n) =
    pairs-append R (f a) (flat_map f (numbers_from (a + 1) n)) (inner a) (pairs-flat_map R f inner across (a + 1) n)
    (λ i d lt.
    let x = slice_index_or (f a) i d in
    All-flat_map (R x) f (numbers_from (a + 1) n) (All-numbers_from (λ b. All (R x) (f b)) (a + 1) n (λ b low high. across a b (omega (arith, low)) i d lt)))
