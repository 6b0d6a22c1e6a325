-- Padded counts, cell by cell and row by row.
use Rattle.std.proofs.Common.{◌≡◌, ℕ, zero, suc, ◌+◌, ◌<◌, ◌≤◌, List, [], ◌∷◌, ◌++◌, length, get_or, inl, inr, refl, arith, ap, sym, ◌∙◌, subst}
use Rattle.std.specs.Prelude.{ℤ, pos, ◌+ℤ◌, ◌-ℤ◌, ◌≤ℤ◌}
use Rattle.std.proofs.lemmas.Int.{ints}
use Rattle.std.proofs.lemmas.Bool.{cases_lt}
use Rattle.sg_linear.specs.Sums.{sum_below}
use Rattle.sg_matchings.specs.Tables.{cell}
use Rattle.sg_matchings.specs.Padding.{IsPadded, IsPaddedCell, IsPaddedRow}

-- a front of a sum of numbers from 0 is at most the sum
pub sum_below-front : (n k : ℕ) (f : ℕ → ℤ) → k ≤ n → ((i : ℕ) → i < n → pos 0 ≤ℤ f i) → sum_below k f ≤ℤ sum_below n f
sum_below-front zero k f le h = let e : k ≡ 0 = omega (arith, le) in rw e (omega (arith, ints))
sum_below-front (suc n) k f le h = elim (cases_lt n k) [
  | inl l ↦ (let e : k ≡ suc n = omega (arith, l, le) in rw e (omega (arith, ints)))
  | inr l ↦ omega (arith, ints, h n (omega arith), sum_below-front n k f l (λ i lt. h i (omega (arith, lt))))
]

-- what is told of each item and of one more
pub each-pushed : {X : Type 0} (d : X) (P : ℕ → X → Type 0) (xs : List X) (v : X) → ((j : ℕ) → j < length xs → P j (get_or xs j d)) → P (length xs) v
    → (j : ℕ) → j < length (xs ++ v ∷ []) → P j (get_or (xs ++ v ∷ []) j d)
each-pushed d P [] v each last zero lt = last
each-pushed d P [] v each last (suc j) lt = absurd (omega (arith, lt))
each-pushed d P (x ∷ xs) v each last zero lt = each 0 (omega arith)
each-pushed d P (x ∷ xs) v each last (suc j) lt = each-pushed d (λ k. P (suc k)) xs v (λ k l. each (suc k) (omega (arith, l))) last j (omega (arith, lt))

pub length-pushed : {X : Type 0} (xs : List X) (v : X) → length (xs ++ v ∷ []) ≡ length xs + 1
length-pushed [] v = refl
length-pushed (x ∷ xs) v = omega (arith, length-pushed xs v)

module _ (counts : List (List ℤ)) (width : ℕ) (most : ℤ) where
  -- the first cells of a row
  pub record AreCells (i : ℕ) (row : List ℤ) (k : ℕ) : Type 0 where
    pub long : length row ≡ k
    pub each : (j : ℕ) → j < length row → IsPaddedCell counts width most i j (get_or row j (pos 0))

  pub cells-none : (i : ℕ) → AreCells i [] 0
  cells-none i = record { long = refl; each = λ j lt. absurd (omega (arith, lt)) }

  pub cells-more : (i k : ℕ) (row row' : List ℤ) (v : ℤ) → AreCells i row k → IsPaddedCell counts width most i k v → row' ≡ row ++ v ∷ [] → AreCells i row' (k + 1)
  cells-more i k row row' v are is e = rw e (record {
    long = length-pushed row v ∙ ap (λ (x : ℕ). x + 1) are.long;
    each = each-pushed (pos 0) (λ j z. IsPaddedCell counts width most i j z) row v are.each (subst (λ (x : ℕ). IsPaddedCell counts width most i x v) (sym are.long) is);
  })

  pub cells-all : (i k : ℕ) (row : List ℤ) → k ≡ length counts + width → AreCells i row k → IsPaddedRow counts width most i row
  cells-all i k row e are = record { long = are.long ∙ e; each = are.each }

  -- the first rows
  pub record AreRows (rows : List (List ℤ)) (k : ℕ) : Type 0 where
    pub long : length rows ≡ k
    pub each : (i : ℕ) → i < length rows → IsPaddedRow counts width most i (get_or rows i [])

  pub rows-none : AreRows [] 0
  rows-none = record { long = refl; each = λ j lt. absurd (omega (arith, lt)) }

  pub rows-more : (k : ℕ) (rows rows' : List (List ℤ)) (row : List ℤ) → AreRows rows k → IsPaddedRow counts width most k row → rows' ≡ rows ++ row ∷ [] → AreRows rows' (k + 1)
  rows-more k rows rows' row are is e = rw e (record {
    long = length-pushed rows row ∙ ap (λ (x : ℕ). x + 1) are.long;
    each = each-pushed [] (λ i z. IsPaddedRow counts width most i z) rows row are.each (subst (λ (x : ℕ). IsPaddedRow counts width most x row) (sym are.long) is);
  })

  pub rows-all : (k : ℕ) (rows : List (List ℤ)) → k ≡ length counts + width → AreRows rows k → IsPadded counts width most rows
  rows-all k rows e are =
      let long : length rows ≡ length counts + width = are.long ∙ e in
      let at : (i j : ℕ) → i < length counts + width → j < length counts + width → IsPaddedCell counts width most i j (cell rows i j) = λ i j li lj.
      let row = are.each i (omega (arith, li, long)) in
      row.each j (omega (arith, lj, row.long)) in
      record {
        long = long;
        square = λ i lt. (are.each i lt).long ∙ sym long;
        inside = λ i j li lj. (at i j (omega (arith, li)) (omega (arith, lj))).inside li lj;
        right = λ i k li lk. (at i (width + k) (omega (arith, li)) (omega (arith, lk))).right k li refl;
        below = λ t j lt lj. (at (length counts + t) j (omega (arith, lt)) (omega (arith, lj))).below t lj refl;
        corner = λ t k lt lk. (at (length counts + t) (width + k) (omega (arith, lt)) (omega (arith, lk))).corner t k refl refl;
      }

pub sum_below-next : (k : ℕ) (f : ℕ → ℤ) → sum_below (k + 1) f ≡ sum_below k f +ℤ f k
sum_below-next k f = let e : k + 1 ≡ suc k = omega arith in rw e refl

-- one more number of a sum within a bound comes off what is left
pub left_within : (n k : ℕ) (f : ℕ → ℤ) (most left : ℤ) → k < n → ((i : ℕ) → i < n → pos 0 ≤ℤ f i) → sum_below n f ≤ℤ most → left ≡ most -ℤ sum_below k f → f k ≤ℤ left
left_within n k f most left lt h le e = omega (arith, ints, sum_below-front n (k + 1) f (omega (arith, lt)) h, sum_below-next k f, le, e)
