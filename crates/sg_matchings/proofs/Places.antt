-- Sums over places.
use Rattle.std.proofs.Common.{◌≡◌, ◌≢◌, ℕ, zero, suc, ◌<◌, Bool, true, false, cond, eqb, inl, inr, refl, ap, arith, sym, ◌∙◌, subst}
use Rattle.std.specs.Prelude.{ℤ, pos, ◌+ℤ◌, ◌-ℤ◌, ◌≤ℤ◌}
use Rattle.std.proofs.lemmas.Int.{ints, by_lt_z}
use Rattle.std.proofs.lemmas.Bool.{cases_eq, cases_Bool, cond-true, cond-false, eq-eqb, ne_eqb}
use Rattle.sg_linear.specs.Sums.{sum_below}

pub sum_below-same : (n : ℕ) (f g : ℕ → ℤ) → ((i : ℕ) → i < n → f i ≡ g i) → sum_below n f ≡ sum_below n g
sum_below-same zero f g h = refl
sum_below-same (suc n) f g h = omega (arith, ints, h n (omega arith), sum_below-same n f g (λ i lt. h i (omega (arith, lt))))

pub sum_below-le : (n : ℕ) (f g : ℕ → ℤ) → ((i : ℕ) → i < n → f i ≤ℤ g i) → sum_below n f ≤ℤ sum_below n g
sum_below-le zero f g h = omega (arith, ints)
sum_below-le (suc n) f g h = omega (arith, ints, h n (omega arith), sum_below-le n f g (λ i lt. h i (omega (arith, lt))))

pub sum_below-zero : (n : ℕ) (f : ℕ → ℤ) → ((i : ℕ) → i < n → f i ≡ pos 0) → sum_below n f ≡ pos 0
sum_below-zero zero f h = refl
sum_below-zero (suc n) f h = omega (arith, ints, h n (omega arith), sum_below-zero n f (λ i lt. h i (omega (arith, lt))))

pub sum_below-nonnegative : (n : ℕ) (f : ℕ → ℤ) → ((i : ℕ) → i < n → pos 0 ≤ℤ f i) → pos 0 ≤ℤ sum_below n f
sum_below-nonnegative zero f h = omega (arith, ints)
sum_below-nonnegative (suc n) f h = omega (arith, ints, h n (omega arith), sum_below-nonnegative n f (λ i lt. h i (omega (arith, lt))))

pub sum_below-add : (n : ℕ) (f g : ℕ → ℤ) → sum_below n (λ i. f i +ℤ g i) ≡ sum_below n f +ℤ sum_below n g
sum_below-add zero f g = refl
sum_below-add (suc n) f g = omega (arith, ints, sum_below-add n f g)

-- two sums exchanged
pub sum_below-exchange : (n m : ℕ) (f : ℕ → ℕ → ℤ) → sum_below n (λ i. sum_below m (λ j. f i j)) ≡ sum_below m (λ j. sum_below n (λ i. f i j))
sum_below-exchange zero m f = sym (sum_below-zero m (λ j. pos 0) (λ i lt. refl))
sum_below-exchange (suc n) m f =
    ap (λ (z : ℤ). z +ℤ sum_below m (f n)) (sum_below-exchange n m f) ∙ sym (sum_below-add m (λ j. sum_below n (λ i. f i j)) (f n))

-- two sums that differ at one place
pub sum_below-but : (n k : ℕ) (f g : ℕ → ℤ) → k < n → ((i : ℕ) → i < n → i ≢ k → f i ≡ g i) → sum_below n f +ℤ g k ≡ sum_below n g +ℤ f k
sum_below-but zero k f g lt h = absurd (omega (arith, lt))
sum_below-but (suc n) k f g lt h = elim (cases_eq k n) [
  | inl e ↦ rw e (omega (arith, ints, sum_below-same n f g (λ i l. h i (omega (arith, l)) (λ q. absurd (omega (arith, l, q, e))))))
  | inr ne ↦ omega (arith, ints, h n (omega arith) (λ q. ne (sym q)), sum_below-but n k f g (omega (arith, lt, ne)) (λ i l. h i (omega (arith, l))))
]

-- a number at one place alone
pub sum_below-once : (n k : ℕ) (s : ℤ) → k < n → sum_below n (λ j. cond (eqb k j) s (pos 0)) ≡ s
sum_below-once n k s lt =
    let but = sum_below-but n k (λ j. cond (eqb k j) s (pos 0)) (λ j. pos 0) lt (λ i l ne. cond-false (eqb k i) s (pos 0) (ne_eqb k i (λ e. ne (sym e)))) in
    omega (arith, ints, but, sum_below-zero n (λ j. pos 0) (λ i l. refl), cond-true (eqb k k) s (pos 0) (eq-eqb k k refl))

-- one summand is at most the sum
pub sum_below-member : (n k : ℕ) (f : ℕ → ℤ) → k < n → ((i : ℕ) → pos 0 ≤ℤ f i) → f k ≤ℤ sum_below n f
sum_below-member zero k f lt h = absurd (omega (arith, lt))
sum_below-member (suc n) k f lt h = elim (cases_eq k n) [
  | inl e ↦ rw e (omega (arith, ints, sum_below-nonnegative n f (λ i l. h i)))
  | inr ne ↦ omega (arith, ints, h n, sum_below-member n k f (omega (arith, lt, ne)) h)
]

-- and so are two
pub sum_below-two : (n i k : ℕ) (f : ℕ → ℤ) → i < k → k < n → ((i : ℕ) → pos 0 ≤ℤ f i) → (f i +ℤ f k) ≤ℤ sum_below n f
sum_below-two zero i k f before lt h = absurd (omega (arith, lt))
sum_below-two (suc n) i k f before lt h = elim (cases_eq k n) [
  | inl e ↦ rw e (omega (arith, ints, sum_below-member n i f (omega (arith, before, e)) h))
  | inr ne ↦ omega (arith, ints, h n, sum_below-two n i k f before (omega (arith, lt, ne)) h)
]

-- a sum above 0 has a summand above 0
pub some_positive : (n : ℕ) (f : ℕ → ℤ) → pos 1 ≤ℤ sum_below n f → (k : ℕ) × ((k < n) × (pos 1 ≤ℤ f k))
some_positive zero f h = absurd (omega (arith, ints, h))
some_positive (suc n) f h =
    by_lt_z (pos 0) (f n)
    (λ lt. (n, (omega arith, omega (arith, ints, lt))))
    (λ le. let r = some_positive n f (omega (arith, ints, le, h)) in (r.0, (let l = r.1.0 in omega (arith, l), r.1.1)))

-- how often a test holds, and a sum of as many equal numbers
pub record Hits (n : ℕ) (b : ℕ → Bool) (s : ℤ) : Type 0 where
  pub none : sum_below n (λ i. cond (b i) (pos 1) (pos 0)) ≤ℤ pos 0 → sum_below n (λ i. cond (b i) s (pos 0)) ≡ pos 0
  pub exactly : sum_below n (λ i. cond (b i) (pos 1) (pos 0)) ≡ pos 1 → sum_below n (λ i. cond (b i) s (pos 0)) ≡ s
  pub once : sum_below n (λ i. cond (b i) (pos 1) (pos 0)) ≤ℤ pos 1 → sum_below n (λ i. cond (b i) s (pos 0)) ≤ℤ s

pub hits : (n : ℕ) (b : ℕ → Bool) (s : ℤ) → pos 0 ≤ℤ s → Hits n b s
hits zero b s h = record { none = λ l. refl; exactly = λ l. absurd (omega (arith, ints, l)); once = λ l. omega (arith, ints, h) }
hits (suc n) b s h =
    let count : pos 0 ≤ℤ sum_below n (λ i. cond (b i) (pos 1) (pos 0)) = sum_below-nonnegative n (λ i. cond (b i) (pos 1) (pos 0)) (λ i l. elim (b i) as (λ t. pos 0 ≤ℤ cond t (pos 1) (pos 0)) [ true ↦ omega (arith, ints) | false ↦ omega (arith, ints) ]) in
    let before = hits n b s h in
    elim (cases_Bool (b n)) [
      | inl t ↦ (
          let one = cond-true (b n) (pos 1) (pos 0) t in
          let all = cond-true (b n) s (pos 0) t in
          record {
            none = λ l. absurd (omega (arith, ints, l, one, count));
            exactly = λ l. omega (arith, ints, all, before.none (omega (arith, ints, l, one)));
            once = λ l. omega (arith, ints, all, before.none (omega (arith, ints, l, one)));
          })
      | inr f ↦ (
          let one = cond-false (b n) (pos 1) (pos 0) f in
          let all = cond-false (b n) s (pos 0) f in
          record {
            none = λ l. omega (arith, ints, all, before.none (omega (arith, ints, l, one)));
            exactly = λ l. omega (arith, ints, all, before.exactly (omega (arith, ints, l, one)));
            once = λ l. omega (arith, ints, all, before.once (omega (arith, ints, l, one)));
          })
    ]

pub sum_below-sub : (n : ℕ) (f g h : ℕ → ℤ) → ((i : ℕ) → i < n → f i ≡ g i -ℤ h i) → sum_below n f ≡ sum_below n g -ℤ sum_below n h
sum_below-sub zero f g h e = refl
sum_below-sub (suc n) f g h e = omega (arith, ints, e n (omega arith), sum_below-sub n f g h (λ i lt. e i (omega (arith, lt))))

-- a smaller sum, at one place smaller by 1
pub sum_below-less : (n k : ℕ) (f g : ℕ → ℤ) → k < n → ((i : ℕ) → i < n → f i ≤ℤ g i) → (f k +ℤ pos 1) ≤ℤ g k → (sum_below n f +ℤ pos 1) ≤ℤ sum_below n g
sum_below-less zero k f g lt le less = absurd (omega (arith, lt))
sum_below-less (suc n) k f g lt le less = elim (cases_eq k n) [
  | inl e ↦ (let here : (f n +ℤ pos 1) ≤ℤ g n = subst (λ (x : ℕ). (f x +ℤ pos 1) ≤ℤ g x) e less in
      omega (arith, ints, here, sum_below-le n f g (λ i l. le i (omega (arith, l)))))
  | inr ne ↦ omega (arith, ints, le n (omega arith), sum_below-less n k f g (omega (arith, lt, ne)) (λ i l. le i (omega (arith, l))) less)
]
