-- Sums over numbers in a row.
use Rattle.std.proofs.Common.{◌≡◌, ℕ, zero, suc, ◌+◌, ◌*◌, ◌<◌, ◌≤◌, Bool, true, false, cond, List, [], ◌∷◌, ◌++◌, map, ℤ, pos, ◌+ℤ◌, ◌-ℤ◌, ◌≤ℤ◌, ◌<ℤ◌, ap, ◌∙◌, refl, arith, eqb, inl, inr}
use Rattle.std.specs.Int.{int_min}
use Rattle.std.specs.List.{list_any}
use Rattle.std.proofs.lemmas.Int.{ints, by_lt_z, clamps}
use Rattle.std.proofs.lemmas.Bool.{cases_eq}
use Rattle.std.proofs.lemmas.List.{map_push}
use Rattle.std.proofs.lemmas.Bool.Decides.{nat_tests}
use Rattle.sg_model.specs.Sums.{total, numbers_from}
use Rattle.sg_model.proofs.Sums.{total-append}

pub total-map : {X Y : Type 0} (f : Y → ℤ) (h : X → Y) (xs : List X) → total f (map h xs) ≡ total (λ x. f (h x)) xs
total-map f h [] = refl
total-map f h (x ∷ xs) = ap (λ (z : ℤ). f (h x) +ℤ z) (total-map f h xs)

pub numbers_from-append : (a m n : ℕ) → numbers_from a (m + n) ≡ numbers_from a m ++ numbers_from (a + m) n
numbers_from-append a zero n =
    let p : 0 + n ≡ n = omega arith in
    let q : a + 0 ≡ a = omega arith in
    rw p (rw q refl)
numbers_from-append a (suc m) n =
    let e : (a + 1) + m ≡ a + suc m = omega arith in
    let more : suc m + n ≡ suc (m + n) = omega arith in
    rw more (ap (λ (xs : List ℕ). a ∷ xs) (numbers_from-append (a + 1) m n ∙ ap (λ (i : ℕ). numbers_from (a + 1) m ++ numbers_from i n) e))

-- equal summands, also between two functions
pub total-same_from : (f g : ℕ → ℤ) (a n : ℕ) → ((i : ℕ) → a ≤ i → i < a + n → f i ≡ g i) → total f (numbers_from a n) ≡ total g (numbers_from a n)
total-same_from f g a zero same = refl
total-same_from f g a (suc n) same =
    omega (arith, ints, same a (omega arith) (omega arith), total-same_from f g (a + 1) n (λ i low high. same i (omega (arith, low)) (omega (arith, high))))

-- a summand that is the same all along
pub total-constant : (f : ℕ → ℤ) (b : Bool) (a n : ℕ) → ((i : ℕ) → a ≤ i → i < a + n → f i ≡ cond b (pos 1) (pos 0)) → total f (numbers_from a n) ≡ cond b (pos n) (pos 0)
total-constant f true a zero same = refl
total-constant f false a zero same = refl
total-constant f true a (suc n) same =
    omega (arith, ints, same a (omega arith) (omega arith), total-constant f true (a + 1) n (λ i low high. same i (omega (arith, low)) (omega (arith, high))))
total-constant f false a (suc n) same =
    omega (arith, ints, same a (omega arith) (omega arith), total-constant f false (a + 1) n (λ i low high. same i (omega (arith, low)) (omega (arith, high))))

-- the numbers from low to before high, each counted once
pub record IsCounted (f : ℕ → ℤ) (low high : ℤ) : Type 0 where
  pub inside : (i : ℕ) → low ≤ℤ pos i → pos i <ℤ high → f i ≡ pos 1
  pub below : (i : ℕ) → pos i <ℤ low → f i ≡ pos 0
  pub above : (i : ℕ) → high ≤ℤ pos i → f i ≡ pos 0

-- how many of them are before a number
abbrev upto : ℤ → ℤ → ℤ → ℤ
upto low high z = int_min z high -ℤ int_min z low

counted_one : (f : ℕ → ℤ) (low high : ℤ) → low ≤ℤ high → IsCounted f low high → (i : ℕ) → f i ≡ upto low high (pos (i + 1)) -ℤ upto low high (pos i)
counted_one f low high le is i =
    by_lt_z (pos i) low
    (λ lt. omega (arith, ints, clamps, is.below i lt, lt, le))
    (λ from. by_lt_z (pos i) high
    (λ lt. omega (arith, ints, clamps, is.inside i from lt, lt, from, le))
    (λ past. omega (arith, ints, clamps, is.above i past, past, le)))

counted_from : (f : ℕ → ℤ) (low high : ℤ) → low ≤ℤ high → IsCounted f low high → (a n : ℕ) → total f (numbers_from a n) ≡ upto low high (pos (a + n)) -ℤ upto low high (pos a)
counted_from f low high le is a zero = let e : a + 0 ≡ a = omega arith in rw e (omega (arith, ints))
counted_from f low high le is a (suc n) =
    let e : (a + 1) + n ≡ a + suc n = omega arith in
    let rest : total f (numbers_from (a + 1) n) ≡ upto low high (pos (a + suc n)) -ℤ upto low high (pos (a + 1)) =
    counted_from f low high le is (a + 1) n ∙ ap (λ (k : ℕ). upto low high (pos k) -ℤ upto low high (pos (a + 1))) e in
    omega (arith, ints, rest, counted_one f low high le is a)

pub total-counted : (f : ℕ → ℤ) (low high : ℤ) (n : ℕ) → IsCounted f low high → pos 0 ≤ℤ low → low ≤ℤ high → high ≤ℤ pos n → total f (numbers_from 0 n) ≡ high -ℤ low
total-counted f low high n is from le fits =
    omega (arith, ints, clamps, counted_from f low high le is 0 n, from, le, fits)

total-shifted : (f : ℕ → ℤ) (b a n : ℕ) → total (λ i. f (b + i)) (numbers_from a n) ≡ total f (numbers_from (b + a) n)
total-shifted f b a zero = refl
total-shifted f b a (suc n) =
    let e : b + (a + 1) ≡ (b + a) + 1 = omega arith in
    ap (λ (z : ℤ). f (b + a) +ℤ z) (total-shifted f b (a + 1) n ∙ ap (λ (i : ℕ). total f (numbers_from i n)) e)

-- r blocks of d numbers are r * d numbers in a row
total-blocks_from : (f : ℕ → ℤ) (d a r : ℕ) → total (λ q. total (λ i. f (q * d + i)) (numbers_from 0 d)) (numbers_from a r) ≡ total f (numbers_from (a * d) (r * d))
total-blocks_from f d a zero = let e : 0 * d ≡ 0 = omega arith in rw e refl
total-blocks_from f d a (suc r) =
    let here : total (λ i. f (a * d + i)) (numbers_from 0 d) ≡ total f (numbers_from (a * d) d) =
    total-shifted f (a * d) 0 d ∙ ap (λ (i : ℕ). total f (numbers_from i d)) (omega arith) in
    let rest = total-blocks_from f d (a + 1) r in
    let start : (a + 1) * d ≡ a * d + d = omega arith in
    let more : suc r * d ≡ d + r * d = omega arith in
    let joined : total f (numbers_from (a * d) (suc r * d)) ≡ total f (numbers_from (a * d) d) +ℤ total f (numbers_from (a * d + d) (r * d)) =
    ap (λ (k : ℕ). total f (numbers_from (a * d) k)) more ∙ (ap (λ (xs : List ℕ). total f xs) (numbers_from-append (a * d) d (r * d)) ∙ total-append f (numbers_from (a * d) d) (numbers_from (a * d + d) (r * d))) in
    let after : total f (numbers_from ((a + 1) * d) (r * d)) ≡ total f (numbers_from (a * d + d) (r * d)) = ap (λ (k : ℕ). total f (numbers_from k (r * d))) start in
    omega (arith, ints, here, rest, joined, after)

pub total-blocks : (f : ℕ → ℤ) (d r : ℕ) → total (λ q. total (λ i. f (q * d + i)) (numbers_from 0 d)) (numbers_from 0 r) ≡ total f (numbers_from 0 (r * d))
total-blocks f d r = total-blocks_from f d 0 r ∙ ap (λ (i : ℕ). total f (numbers_from i (r * d))) (omega arith)

-- a choice that at most one number makes
abbrev pub IsOnce : (ℕ → ℕ) → ℕ → Type 0
IsOnce choice t = (i j : ℕ) → i < j → choice i ≡ t → choice j ≡ t → ⊥

any_later : (choice : ℕ → ℕ) (t a n : ℕ) → ((j : ℕ) → a ≤ j → choice j ≡ t → ⊥) → total (λ i. cond (eqb (choice i) t) (pos 1) (pos 0)) (numbers_from a n) ≡ pos 0
any_later choice t a zero none = refl
any_later choice t a (suc n) none =
    let e : eqb (choice a) t ≡ false = elim (cases_eq (choice a) t) [ inl q ↦ absurd (none a (omega arith) q) | inr ne ↦ grind (arith, nat_tests) ] in
    rw e (omega (arith, ints, any_later choice t (a + 1) n (λ j low. none j (omega (arith, low)))))

pub any-once : (choice : ℕ → ℕ) (t a n : ℕ) → IsOnce choice t
    → cond (list_any (λ c. eqb c t) (map choice (numbers_from a n))) (pos 1) (pos 0) ≡ total (λ i. cond (eqb (choice i) t) (pos 1) (pos 0)) (numbers_from a n)
any-once choice t a zero once = refl
any-once choice t a (suc n) once =
    elim (cases_eq (choice a) t) [
      | inl q ↦ (
          let e : eqb (choice a) t ≡ true = grind (arith, nat_tests) in
          rw e (omega (arith, ints, any_later choice t (a + 1) n (λ j low h. once a j (omega (arith, low)) q h))))
      | inr ne ↦ (
          let e : eqb (choice a) t ≡ false = grind (arith, nat_tests) in
          rw e (omega (arith, ints, any-once choice t (a + 1) n once)))
    ]

pub map-numbers_from : {X : Type 0} (f : ℕ → X) (k : ℕ) → map f (numbers_from 0 (k + 1)) ≡ map f (numbers_from 0 k) ++ f k ∷ []
map-numbers_from f k =
    let e : 0 + k ≡ k = omega arith in
    ap (map f) (numbers_from-append 0 k 1 ∙ ap (λ (i : ℕ). numbers_from 0 k ++ i ∷ []) e) ∙ map_push f (numbers_from 0 k) k
