-- The numbers from 1 to n.
use Rattle.std.proofs.Common.{◌∙◌, ◌≡◌, ℕ, zero, suc, ◌+◌, ◌<◌, ◌≤◌, Bool, true, false, cond, List, [], ◌∷◌, ℤ, pos, ◌+ℤ◌, ◌≤ℤ◌, ap, subst, refl, arith, eqb, ◌≢◌, map, inl, inr}
use Rattle.std.specs.List.{All}
use Rattle.std.proofs.lemmas.Int.{ints}
use Rattle.std.proofs.lemmas.Bool.Decides.{nat_tests}
use Rattle.std.proofs.lemmas.List.Elements.{All-nil, All-cons, All-head, All-tail}
use Rattle.std.proofs.lemmas.Bool.{cases_eq}
use Rattle.sg_model.specs.Sums.{nth, numbers, numbers_from, total}
use Rattle.std.proofs.Common.{length, get_or, ◌-◌}
use Rattle.std.proofs.lemmas.List.{get_or_default, length-map}
use Rattle.std.proofs.Math.ListN.{get_or-map}

pub All-numbers_from : (P : ℕ → Type 0) (a n : ℕ) → ((t : ℕ) → a ≤ t → t < a + n → P t) → All P (numbers_from a n)
All-numbers_from P a zero h = All-nil P
All-numbers_from P a (suc n) h =
    All-cons P a (numbers_from (a + 1) n) (h a (omega arith) (omega arith)) (All-numbers_from P (a + 1) n (λ t low high. h t (omega arith) (omega arith)))

pub All-numbers : (P : ℕ → Type 0) (n : ℕ) → ((t : ℕ) → 1 ≤ t → t ≤ n → P t) → All P (numbers n)
All-numbers P n h = All-numbers_from P 1 n (λ t low high. h t low (omega arith))

-- a number s stands at most once among them
none_after : (w : ℤ) (s a n : ℕ) → s < a → total (λ t. cond (eqb s t) w (pos 0)) (numbers_from a n) ≡ pos 0
none_after w s a zero h = refl
none_after w s a (suc n) h =
    let e : eqb s a ≡ false = grind (arith, nat_tests) in
    rw e (omega (arith, ints, none_after w s (a + 1) n (omega arith)))

pub once : (w : ℤ) → pos 0 ≤ℤ w → (s a n : ℕ) → total (λ t. cond (eqb s t) w (pos 0)) (numbers_from a n) ≤ℤ w
once w h s a zero = h
once w h s a (suc n) = elim (eqb s a) as (λ (b : Bool). eqb s a ≡ b → (cond b w (pos 0) +ℤ total (λ t. cond (eqb s t) w (pos 0)) (numbers_from (a + 1) n)) ≤ℤ w) [
  | true ↦ (λ e. let q : s < a + 1 = grind (arith, nat_tests) in omega (arith, ints, none_after w s (a + 1) n q))
  | false ↦ (λ e. omega (arith, ints, once w h s (a + 1) n))
] refl

pub All-numbers_from-at : (P : ℕ → Type 0) (a m : ℕ) → All P (numbers_from a m) → (t : ℕ) → a ≤ t → t < a + m → P t
All-numbers_from-at P a zero h t low high = absurd (omega arith)
All-numbers_from-at P a (suc m) h t low high =
    elim (cases_eq a t) [
      | inl e ↦ subst P e (All-head P a (numbers_from (a + 1) m) h)
      | inr ne ↦ All-numbers_from-at P (a + 1) m (All-tail P a (numbers_from (a + 1) m) h) t (omega arith) (omega arith)
    ]

pub All-numbers-at : (P : ℕ → Type 0) (m : ℕ) → All P (numbers m) → (t : ℕ) → 1 ≤ t → t ≤ m → P t
All-numbers-at P m h t low high = All-numbers_from-at P 1 m h t low (omega arith)

abbrev pub InRange-numbers : ℕ → ℕ → Type 0
InRange-numbers m t = (1 ≤ t) × (t ≤ m)

pub numbers-some : (m : ℕ) → 1 ≤ m → numbers m ≢ []
numbers-some zero h = absurd (omega arith)
numbers-some (suc m) h = λ e. cc

pub map-none : {X Y : Type 0} (f : X → Y) (xs : List X) → map f xs ≡ [] → xs ≡ []
map-none f [] e = refl
map-none f (x ∷ xs) e = cc

-- a place counted from 1, whatever stands for none
pub nth-is : {X : Type 0} (xs : List X) (i : ℕ) (d x : X) → 1 ≤ i → i ≤ length xs → nth xs i d ≡ get_or xs (i - 1) x
nth-is xs zero d x h low = absurd (omega arith)
nth-is xs (suc k) d x h low = let e : suc k - 1 ≡ k = omega arith in rw e (get_or_default xs k d x (omega arith))

pub length-numbers_from : (a m : ℕ) → length (numbers_from a m) ≡ m
length-numbers_from a zero = refl
length-numbers_from a (suc m) = ap suc (length-numbers_from (a + 1) m)

pub nth-numbers_from : (a m k d : ℕ) → k < m → get_or (numbers_from a m) k d ≡ a + k
nth-numbers_from a zero k d h = absurd (omega arith)
nth-numbers_from a (suc m) zero d h = omega arith
nth-numbers_from a (suc m) (suc k) d h = omega (arith, nth-numbers_from (a + 1) m k d (omega arith))

pub nth-numbers : (m i d : ℕ) → 1 ≤ i → i ≤ m → nth (numbers m) i d ≡ i
nth-numbers m zero d h low = absurd (omega arith)
nth-numbers m (suc k) d h low = omega (arith, nth-numbers_from 1 m k d (omega arith))

-- a place of a mapped list
pub nth-map : {X Y : Type 0} (f : X → Y) (xs : List X) (i : ℕ) (d : Y) (x : X) → 1 ≤ i → i ≤ length xs → nth (map f xs) i d ≡ f (get_or xs (i - 1) x)
nth-map f xs i d x low high = nth-is (map f xs) i d (f x) low (omega (arith, length-map xs f)) ∙ get_or-map f xs (i - 1) x
