-- Matchings of more and more columns, up to perfect ones.
use Rattle.std.proofs.Common.{◌≡◌, ◌≢◌, ℕ, zero, suc, ◌+◌, ◌<◌, ◌≤◌, List, Bool, false, length, eqb, get_or, inl, inr, refl, arith, ap, sym, ◌∙◌, subst}
use Rattle.std.proofs.Math.ListN.{replicate}
use Rattle.std.proofs.lemmas.List.{length-replicate, get_or-replicate}
use Rattle.std.specs.Prelude.{ℤ, pos, ◌≤ℤ◌}
use Rattle.std.proofs.lemmas.Int.{ints}
use Rattle.std.proofs.lemmas.Bool.{cases_eq, cases_lt, cond-true, cond-false, eq-eqb, ne_eqb}
use Rattle.sg_linear.specs.Sums.{sum_below}
use Rattle.sg_matchings.specs.Sums.{occurrences}
use Rattle.sg_matchings.specs.Tables.{cell, HasLineSum, IsPerfectMatching}
use Rattle.sg_matchings.specs.Matchings.{is_seen, AreMatched, IsOnPositive, Gains, IsBlocked}
use Rattle.sg_matchings.proofs.Places.{sum_below-exchange, sum_below-less, sum_below-member, sum_below-once, sum_below-two, sum_below-zero, sum_below-same}
use Rattle.sg_matchings.proofs.Counts.{hit}
use Rattle.sg_matchings.proofs.Hall.{never_blocked}

sum_below-ones : (n : ℕ) → sum_below n (λ i. pos 1) ≡ pos n
sum_below-ones zero = refl
sum_below-ones (suc n) = omega (arith, ints, sum_below-ones n)

unseen_all : (n i : ℕ) → is_seen (replicate n false) i ≡ false
unseen_all zero i = refl
unseen_all (suc n) zero = refl
unseen_all (suc n) (suc i) = unseen_all n i

pub hit-same : (x : ℕ) → hit x x ≡ pos 1
hit-same x = cond-true (eqb x x) (pos 1) (pos 0) (eq-eqb x x refl)

pub hit-apart : (x y : ℕ) → x ≢ y → hit x y ≡ pos 0
hit-apart x y ne = cond-false (eqb x y) (pos 1) (pos 0) (ne_eqb x y ne)

pub hit-nonnegative : (x y : ℕ) → pos 0 ≤ℤ hit x y
hit-nonnegative x y = elim (cases_eq x y) [ inl e ↦ rw e (omega (arith, ints, hit-same y)) | inr ne ↦ omega (arith, ints, hit-apart x y ne) ]

pub matched-more : (rows : List (List ℤ)) (m m' : List ℕ) (c : ℕ) → c < length rows → AreMatched rows m c → occurrences c m ≡ pos 0 → IsOnPositive rows m' → Gains (length rows) c m m' → AreMatched rows m' (c + 1)
matched-more rows m m' c lt are free positive gains = record {
  positive = positive;
  once = λ j l. elim (cases_eq j c) [
    | inl e ↦ rw e (omega (arith, ints, gains c, free, hit-same c, hit-apart (length rows) c (λ q. absurd (omega (arith, q, lt)))))
    | inr ne ↦ (
        let before : j < c = omega (arith, l, ne) in
        omega (arith, ints, gains j, are.once j before, hit-apart c j (λ q. ne (sym q)), hit-apart (length rows) j (λ q. absurd (omega (arith, q, before, lt)))))
  ];
  at_most = λ j from l. omega (arith, ints, gains j, are.at_most j (omega (arith, from)) l, hit-apart c j (λ q. absurd (omega (arith, q, from))), hit-apart (length rows) j (λ q. absurd (omega (arith, q, l))));
}

-- a column that some row has already
pub matched-already : (rows : List (List ℤ)) (m : List ℕ) (c : ℕ) → c < length rows → AreMatched rows m c → pos 1 ≤ℤ occurrences c m → AreMatched rows m (c + 1)
matched-already rows m c lt are some = record {
  positive = are.positive;
  once = λ j l. elim (cases_eq j c) [
    | inl e ↦ rw e (omega (arith, ints, some, are.at_most c (omega arith) lt))
    | inr ne ↦ are.once j (omega (arith, l, ne))
  ];
  at_most = λ j from l. are.at_most j (omega (arith, from)) l;
}

-- the search succeeds where nothing was reached before
pub search_succeeds : (rows : List (List ℤ)) (sum : ℤ) → pos 1 ≤ℤ sum → HasLineSum rows sum → (m : List ℕ) (c : ℕ) → c < length rows → AreMatched rows m c → occurrences c m ≡ pos 0
    → (s : List Bool) → ((i : ℕ) → is_seen s i ≡ false) → (m' : List ℕ) (s' : List Bool) → IsBlocked rows c m s m' s' → ⊥
search_succeeds rows sum above table m c lt are free s fresh m' s' blocked =
    never_blocked rows sum above table m are.positive.each_row c lt
    (λ j l. elim (cases_lt j c) [ inl before ↦ omega (arith, ints, are.once j before) | inr from ↦ are.at_most j from l ])
    free s' blocked.own (λ i t. blocked.others i t (fresh i))

-- a number below n is one of the numbers below n, and another is none
hit_below : (n x : ℕ) → x < n → sum_below n (hit x) ≡ pos 1
hit_below n x lt = sum_below-once n x (pos 1) lt

hit_above : (n x : ℕ) → n ≤ x → sum_below n (hit x) ≡ pos 0
hit_above n x le = sum_below-zero n (hit x) (λ j l. hit-apart x j (λ q. absurd (omega (arith, q, l, le))))

hit_all : (n x : ℕ) → sum_below n (hit x) ≤ℤ pos 1
hit_all n x = elim (cases_lt x n) [ inl lt ↦ omega (arith, ints, hit_below n x lt) | inr le ↦ omega (arith, ints, hit_above n x le) ]

-- where each column is there once, no row is free
all_taken : (n : ℕ) (m : List ℕ) → length m ≡ n → ((j : ℕ) → j < n → occurrences j m ≡ pos 1) → (i : ℕ) → i < n → get_or m i 0 ≡ n → ⊥
all_taken n m long once i lt e =
    let all : sum_below n (λ j. occurrences j m) ≡ pos n = sum_below-same n (λ j. occurrences j m) (λ j. pos 1) once ∙ sum_below-ones n in
    let turned : sum_below n (λ j. sum_below (length m) (λ k. hit (get_or m k 0) j)) ≡ sum_below (length m) (λ k. sum_below n (hit (get_or m k 0))) =
    sum_below-exchange n (length m) (λ j k. hit (get_or m k 0) j) in
    let none : sum_below n (hit (get_or m i 0)) ≡ pos 0 = hit_above n (get_or m i 0) (omega (arith, e)) in
    let less = sum_below-less (length m) i (λ k. sum_below n (hit (get_or m k 0))) (λ k. pos 1) (omega (arith, lt, long)) (λ k l. hit_all n (get_or m k 0)) (omega (arith, ints, none)) in
    let ones : sum_below (length m) (λ k. pos 1) ≡ pos n = sum_below-ones (length m) ∙ ap pos long in
    absurd (omega (arith, ints, all, turned, less, ones))

-- a column that stands in two rows is there twice
pub once-apart : (m : List ℕ) (i k : ℕ) → i < k → k < length m → occurrences (get_or m i 0) m ≤ℤ pos 1 → get_or m i 0 ≢ get_or m k 0
once-apart m i k before lt once q =
    let x : ℕ = get_or m i 0 in
    let two = sum_below-two (length m) i k (λ l. hit (get_or m l 0) x) before lt (λ l. hit-nonnegative (get_or m l 0) x) in
    let first : hit (get_or m i 0) x ≡ pos 1 = hit-same x in
    let second : hit (get_or m k 0) x ≡ pos 1 = ap (λ (y : ℕ). hit y x) (sym q) ∙ hit-same x in
    absurd (omega (arith, ints, two, first, second, once))

pub perfect : (rows : List (List ℤ)) (m : List ℕ) (c : ℕ) → c ≡ length rows → AreMatched rows m c → IsPerfectMatching rows m
perfect rows m c e are =
    let long : length m ≡ length rows = are.positive.each_row in
    let once : (j : ℕ) → j < length rows → occurrences j m ≡ pos 1 = λ j lt. are.once j (omega (arith, lt, e)) in
    let there : (i : ℕ) → i < length rows → (get_or m i 0 < length rows) × (pos 1 ≤ℤ cell rows i (get_or m i 0)) =
    λ i lt. elim (are.positive.each i lt) [ inl q ↦ absurd (all_taken (length rows) m long once i lt q) | inr r ↦ r ] in
    record {
      each_row = long;
      within = λ i lt. (there i lt).0;
      positive = λ i lt. (there i lt).1;
      different = λ i k before lt. once-apart m i k before (omega (arith, lt, long)) (omega (arith, ints, once (get_or m i 0) (there i (omega (arith, before, lt))).0));
      each_column = once;
    }

-- all rows are free at first
pub free_at_first : (rows : List (List ℤ)) (m : List ℕ) → m ≡ replicate (length rows) (length rows) → AreMatched rows m 0
free_at_first rows m e =
    let n : ℕ = length rows in
    let long : length m ≡ n = ap (λ (x : List ℕ). length x) e ∙ length-replicate n n in
    let at : (i : ℕ) → i < n → get_or m i 0 ≡ n = λ i lt. ap (λ (x : List ℕ). get_or x i 0) e ∙ get_or-replicate n i n 0 lt in
    let none : (j : ℕ) → j < n → occurrences j m ≡ pos 0 = λ j lt.
    sum_below-zero (length m) (λ i. hit (get_or m i 0) j) (λ i l. ap (λ (x : ℕ). hit x j) (at i (omega (arith, l, long))) ∙ hit-apart n j (λ q. absurd (omega (arith, q, lt)))) in
    record {
      positive = record { each_row = long; each = λ i lt. inl (at i lt) };
      once = λ j l. absurd (omega (arith, l));
      at_most = λ j from lt. omega (arith, ints, none j lt);
    }

pub free_at : (rows : List (List ℤ)) (m : List ℕ) (n k : ℕ) → n ≡ length rows → k ≡ length rows → m ≡ replicate n k → AreMatched rows m 0
free_at rows m n k e f q = free_at_first rows m (subst (λ (x : ℕ). m ≡ replicate x (length rows)) e (subst (λ (x : ℕ). m ≡ replicate n x) f q))

pub nothing_seen : (n : ℕ) (s : List Bool) → s ≡ replicate n false → (i : ℕ) → is_seen s i ≡ false
nothing_seen n s e i = ap (λ (x : List Bool). is_seen x i) e ∙ unseen_all n i

-- some row has the column, and none has
pub some_has : (m : List ℕ) (i c : ℕ) → i < length m → get_or m i 0 ≡ c → pos 1 ≤ℤ occurrences c m
some_has m i c lt e =
    let member = sum_below-member (length m) i (λ k. hit (get_or m k 0) c) lt (λ k. hit-nonnegative (get_or m k 0) c) in
    let one : hit (get_or m i 0) c ≡ pos 1 = ap (λ (x : ℕ). hit x c) e ∙ hit-same c in
    omega (arith, ints, member, one)

-- no row before one has the column
abbrev pub HaveNot : List ℕ → ℕ → ℕ → Type 0
HaveNot m c k = (i : ℕ) → i < k → get_or m i 0 ≢ c

pub have_not-more : (m : List ℕ) (c k : ℕ) → HaveNot m c k → get_or m k 0 ≢ c → HaveNot m c (k + 1)
have_not-more m c k before ne i lt = elim (cases_eq i k) [ inl e ↦ rw e ne | inr other ↦ before i (omega (arith, lt, other)) ]

pub none_has : (m : List ℕ) (c : ℕ) → HaveNot m c (length m) → occurrences c m ≡ pos 0
none_has m c none = sum_below-zero (length m) (λ i. hit (get_or m i 0) c) (λ i lt. hit-apart (get_or m i 0) c (none i lt))
