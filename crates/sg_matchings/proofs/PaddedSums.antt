-- Padded counts have a line sum.
use Rattle.std.proofs.Common.{◌≡◌, ℕ, zero, suc, ◌+◌, ◌-◌, ◌<◌, ◌≤◌, true, false, List, length, cond, eqb, inl, inr, refl, arith, ap, ◌∙◌, subst}
use Rattle.std.specs.Prelude.{ℤ, pos, ◌+ℤ◌, ◌-ℤ◌, ◌≤ℤ◌}
use Rattle.std.proofs.lemmas.Int.{ints}
use Rattle.std.proofs.lemmas.Bool.{cases_lt, cond-true, cond-false, eq-eqb, ne_eqb}
use Rattle.sg_linear.specs.Sums.{sum_below}
use Rattle.sg_matchings.specs.Tables.{cell, HasLineSum}
use Rattle.sg_matchings.specs.Padding.{AreWithin, IsPadded, PaddedHasLineSum, row_total, column_total}
use Rattle.sg_matchings.proofs.Places.{sum_below-same, sum_below-once, sum_below-but, sum_below-zero}

-- a sum in two pieces
pub sum_below-split : (m n : ℕ) (f : ℕ → ℤ) → sum_below (m + n) f ≡ sum_below m f +ℤ sum_below n (λ k. f (m + k))
sum_below-split m zero f = let e : m + 0 ≡ m = omega arith in rw e (omega (arith, ints))
sum_below-split m (suc n) f =
    let e : m + suc n ≡ suc (m + n) = omega arith in
    rw e (omega (arith, ints, sum_below-split m n f))

-- a number at one place alone, told from the other side
pub once-turned : (n k : ℕ) (s : ℕ → ℤ) → k < n → sum_below n (λ j. cond (eqb j k) (s j) (pos 0)) ≡ s k
once-turned n k s lt =
    let but = sum_below-but n k (λ j. cond (eqb j k) (s j) (pos 0)) (λ j. pos 0) lt (λ i l ne. cond-false (eqb i k) (s i) (pos 0) (ne_eqb i k ne)) in
    omega (arith, ints, but, sum_below-zero n (λ j. pos 0) (λ i l. refl), cond-true (eqb k k) (s k) (pos 0) (eq-eqb k k refl))

module _ (counts : List (List ℤ)) (width : ℕ) (most : ℤ) (rows : List (List ℤ)) (within : AreWithin counts width most) (padded : IsPadded counts width most rows) where
  abbrev r : ℕ
  r = length counts

  -- an index is one of the counts, or so far behind them
  elsewhere : (m n i : ℕ) → i < m + n → (P : ℕ → Type 0) → ((k : ℕ) → k < m → P k) → ((k : ℕ) → k < n → P (m + k)) → P i
  elsewhere m n i lt P low high = elim (cases_lt i m) [
    | inl l ↦ low i l
    | inr le ↦ (let e : m + (i - m) ≡ i = omega (arith, le) in subst P e (high (i - m) (omega (arith, le, lt))))
  ]

  upper_rows : (i : ℕ) → i < r → sum_below (width + r) (λ j. cell rows i j) ≡ most
  upper_rows i lt =
      omega (
        arith,
        ints,
        sum_below-split width r (λ j. cell rows i j),
        sum_below-same width (λ j. cell rows i j) (λ j. cell counts i j) (λ j lj. padded.inside i j lt lj),
        sum_below-same r (λ k. cell rows i (width + k)) (λ k. cond (eqb i k) (most -ℤ row_total counts width i) (pos 0)) (λ k lk. padded.right i k lt lk),
        sum_below-once r i (most -ℤ row_total counts width i) lt,
      )

  lower_rows : (t : ℕ) → t < width → sum_below (width + r) (λ j. cell rows (r + t) j) ≡ most
  lower_rows t lt =
      omega (
        arith,
        ints,
        sum_below-split width r (λ j. cell rows (r + t) j),
        sum_below-same width (λ j. cell rows (r + t) j) (λ j. cond (eqb t j) (most -ℤ column_total counts t) (pos 0)) (λ j lj. padded.below t j lt lj),
        sum_below-once width t (most -ℤ column_total counts t) lt,
        sum_below-same r (λ k. cell rows (r + t) (width + k)) (λ k. cell counts k t) (λ k lk. padded.corner t k lt lk),
      )

  left_columns : (j : ℕ) → j < width → sum_below (r + width) (λ i. cell rows i j) ≡ most
  left_columns j lt =
      omega (
        arith,
        ints,
        sum_below-split r width (λ i. cell rows i j),
        sum_below-same r (λ i. cell rows i j) (λ i. cell counts i j) (λ i li. padded.inside i j li lt),
        sum_below-same width (λ t. cell rows (r + t) j) (λ t. cond (eqb t j) (most -ℤ column_total counts t) (pos 0)) (λ t l. padded.below t j l lt),
        once-turned width j (λ t. most -ℤ column_total counts t) lt,
      )

  right_columns : (k : ℕ) → k < r → sum_below (r + width) (λ i. cell rows i (width + k)) ≡ most
  right_columns k lt =
      omega (
        arith,
        ints,
        sum_below-split r width (λ i. cell rows i (width + k)),
        sum_below-same r (λ i. cell rows i (width + k)) (λ i. cond (eqb i k) (most -ℤ row_total counts width i) (pos 0)) (λ i li. padded.right i k li lt),
        once-turned r k (λ i. most -ℤ row_total counts width i) lt,
        sum_below-same width (λ t. cell rows (r + t) (width + k)) (λ t. cell counts k t) (λ t l. padded.corner t k l lt),
      )

  lacks : (i k : ℕ) (z : ℤ) → pos 0 ≤ℤ z → pos 0 ≤ℤ cond (eqb i k) z (pos 0)
  lacks i k z h = elim (eqb i k) as (λ b. pos 0 ≤ℤ cond b z (pos 0)) [ true ↦ h | false ↦ omega (arith, ints) ]

  nonnegative_cells : (i j : ℕ) → i < r + width → j < width + r → pos 0 ≤ℤ cell rows i j
  nonnegative_cells i j li lj = elsewhere r width i li (λ x. pos 0 ≤ℤ cell rows x j)
      (λ x lx. elsewhere width r j lj (λ y. pos 0 ≤ℤ cell rows x y)
      (λ y ly. omega (arith, ints, padded.inside x y lx ly, within.nonnegative x y lx ly))
      (λ y ly. omega (arith, ints, padded.right x y lx ly, lacks x y (most -ℤ row_total counts width x) (omega (arith, ints, within.rows_within x lx)))))
      (λ x lx. elsewhere width r j lj (λ y. pos 0 ≤ℤ cell rows (r + x) y)
      (λ y ly. omega (arith, ints, padded.below x y lx ly, lacks x y (most -ℤ column_total counts x) (omega (arith, ints, within.columns_within x lx))))
      (λ y ly. omega (arith, ints, padded.corner x y lx ly, within.nonnegative y x ly lx)))

  pub padded-line_sum : 1 ≤ length counts + width → HasLineSum rows most
  padded-line_sum some =
      let turned : length rows ≡ width + r = omega (arith, padded.long) in
      record {
        some_row = omega (arith, some, padded.long);
        square = padded.square;
        nonnegative = λ i j li lj. nonnegative_cells i j (omega (arith, li, padded.long)) (omega (arith, lj, padded.long));
        rows_sum = λ i li. ap (λ (x : ℕ). sum_below x (λ j. cell rows i j)) turned
            ∙ elsewhere r width i (omega (arith, li, padded.long)) (λ x. sum_below (width + r) (λ j. cell rows x j) ≡ most) upper_rows lower_rows;
        columns_sum = λ j lj. ap (λ (x : ℕ). sum_below x (λ i. cell rows i j)) padded.long
            ∙ elsewhere width r j (omega (arith, lj, padded.long)) (λ y. sum_below (r + width) (λ i. cell rows i y) ≡ most) left_columns right_columns;
      }

pub padded-has : PaddedHasLineSum
padded-has counts width most rows some within padded = padded-line_sum counts width most rows within padded some
