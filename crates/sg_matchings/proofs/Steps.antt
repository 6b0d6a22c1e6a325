-- A step of the decomposition keeps the line sums, and leaves fewer positive cells.
use Rattle.std.proofs.Common.{◌≡◌, ℕ, zero, suc, ◌+◌, ◌-◌, ◌<◌, List, false, length, cond, eqb, get_or, inl, inr, refl, arith, ap, sym, ◌∙◌, subst}
use Rattle.std.specs.Prelude.{ℤ, pos, negsuc, ◌+ℤ◌, ◌-ℤ◌, ◌≤ℤ◌, ◌<ℤ◌, int_lt, unsigned_abs}
use Rattle.std.proofs.lemmas.Int.{ints, by_lt_z}
use Rattle.std.proofs.lemmas.Bool.{cases_eq, cases_lt, cases_Bool, cond-true, cond-false, eq-eqb, ne_eqb}
use Rattle.sg_matchings.specs.declared.part.Part.{Part}
use Rattle.sg_linear.specs.Sums.{sum_below}
use Rattle.sg_matchings.specs.Tables.{cell, HasLineSum}
use Rattle.sg_matchings.specs.Decompositions.{cell_weight}
use Rattle.sg_matchings.specs.Mirrors.{IsMirrored, IsMatchingStep, IsTurned, positive_cells}
use Rattle.sg_matchings.proofs.Places.{sum_below-le, sum_below-sub, sum_below-less, sum_below-once, sum_below-nonnegative, hits}

-- a summand of a sum of numbers from 0 is at most the sum
member : (n k : ℕ) (f : ℕ → ℤ) → k < n → ((i : ℕ) → i < n → pos 0 ≤ℤ f i) → f k ≤ℤ sum_below n f
member zero k f lt h = absurd (omega (arith, lt))
member (suc n) k f lt h = elim (cases_eq k n) [
  | inl e ↦ rw e (omega (arith, ints, sum_below-nonnegative n f (λ i l. h i (omega (arith, l)))))
  | inr ne ↦ omega (arith, ints, h n (omega arith), member n k f (omega (arith, lt, ne)) (λ i l. h i (omega (arith, l))))
]

pub cell-upto : (rows : List (List ℤ)) (sum : ℤ) → HasLineSum rows sum → (i j : ℕ) → i < length rows → j < length rows → cell rows i j ≤ℤ sum
cell-upto rows sum table i j li lj = omega (arith, ints, member (length rows) j (λ k. cell rows i k) lj (λ k lk. table.nonnegative i k li lk), table.rows_sum i li)

pub weight-upto : (rows : List (List ℤ)) (sum : ℤ) → HasLineSum rows sum → (part : Part) (rows' : List (List ℤ)) → IsMatchingStep rows part rows' → part.weight ≤ℤ sum
weight-upto rows sum table part rows' step =
    let i : ℕ = step.least.reached.0 in
    let lt = step.least.reached.1.0 in
    omega (arith, ints, step.least.reached.1.1, cell-upto rows sum table i (get_or part.columns i 0) lt (step.matching.within i lt))

pub weight-positive : (rows : List (List ℤ)) (part : Part) (rows' : List (List ℤ)) → IsMatchingStep rows part rows' → pos 1 ≤ℤ part.weight
weight-positive rows part rows' step =
    omega (arith, ints, step.least.reached.1.1, step.matching.positive step.least.reached.0 step.least.reached.1.0)

module _ (rows : List (List ℤ)) (sum : ℤ) (table : HasLineSum rows sum) (part : Part) (rows' : List (List ℤ)) (step : IsMatchingStep rows part rows') where
  abbrev n : ℕ
  n = length rows

  w_positive : pos 1 ≤ℤ part.weight
  w_positive = weight-positive rows part rows' step

  nonnegative_less : (i j : ℕ) → i < n → j < n → pos 0 ≤ℤ cell rows' i j
  nonnegative_less i j li lj = elim (cases_eq (get_or part.columns i 0) j) [
    | inl e ↦ (
        let off : cell_weight i j part ≡ part.weight = cond-true (eqb (get_or part.columns i 0) j) part.weight (pos 0) (eq-eqb (get_or part.columns i 0) j e) in
        let bound : part.weight ≤ℤ cell rows i j = subst (λ (x : ℕ). part.weight ≤ℤ cell rows i x) e (step.least.bound i li) in
        omega (arith, ints, off, bound, step.less.cells i j li lj))
    | inr ne ↦ (
        let off : cell_weight i j part ≡ pos 0 = cond-false (eqb (get_or part.columns i 0) j) part.weight (pos 0) (ne_eqb (get_or part.columns i 0) j ne) in
        omega (arith, ints, off, table.nonnegative i j li lj, step.less.cells i j li lj))
  ]

  weight_nonnegative : (i j : ℕ) → pos 0 ≤ℤ cell_weight i j part
  weight_nonnegative i j = elim (cases_Bool (eqb (get_or part.columns i 0) j)) [
    | inl t ↦ omega (arith, ints, cond-true (eqb (get_or part.columns i 0) j) part.weight (pos 0) t, w_positive)
    | inr f ↦ omega (arith, ints, cond-false (eqb (get_or part.columns i 0) j) part.weight (pos 0) f)
  ]

  pub smaller_cells : (i j : ℕ) → i < n → j < n → cell rows' i j ≤ℤ cell rows i j
  smaller_cells i j li lj = omega (arith, ints, weight_nonnegative i j, step.less.cells i j li lj)

  rows_less : (i : ℕ) → i < n → sum_below n (λ j. cell rows' i j) ≡ sum -ℤ part.weight
  rows_less i li = omega (
    arith,
    ints,
    sum_below-sub n (λ j. cell rows' i j) (λ j. cell rows i j) (λ j. cell_weight i j part) (λ j lj. step.less.cells i j li lj),
    table.rows_sum i li,
    sum_below-once n (get_or part.columns i 0) part.weight (step.matching.within i li),
  )

  columns_less : (j : ℕ) → j < n → sum_below n (λ i. cell rows' i j) ≡ sum -ℤ part.weight
  columns_less j lj =
      let once = (hits (length part.columns) (λ i. eqb (get_or part.columns i 0) j) part.weight (omega (arith, ints, w_positive))).exactly (step.matching.each_column j lj) in
      let all : sum_below n (λ i. cell_weight i j part) ≡ part.weight = subst (λ (x : ℕ). sum_below x (λ i. cell_weight i j part) ≡ part.weight) step.matching.each_row once in
      omega (arith, ints, sum_below-sub n (λ i. cell rows' i j) (λ i. cell rows i j) (λ i. cell_weight i j part) (λ i li. step.less.cells i j li lj), table.columns_sum j lj, all)

  pub line_sum-less : HasLineSum rows' (sum -ℤ part.weight)
  line_sum-less =
      let long : length rows' ≡ n = step.less.long in
      record {
        some_row = omega (arith, long, table.some_row);
        square = step.less.square;
        nonnegative = λ i j li lj. nonnegative_less i j (omega (arith, li, long)) (omega (arith, lj, long));
        rows_sum = λ i li. ap (λ (x : ℕ). sum_below x (λ j. cell rows' i j)) long ∙ rows_less i (omega (arith, li, long));
        columns_sum = λ j lj. ap (λ (x : ℕ). sum_below x (λ i. cell rows' i j)) long ∙ columns_less j (omega (arith, lj, long));
      }

  abbrev one : ℤ → ℤ
  one z = cond (int_lt (pos 0) z) (pos 1) (pos 0)

  one-positive : (z : ℤ) → pos 1 ≤ℤ z → one z ≡ pos 1
  one-positive z h = cond-true (int_lt (pos 0) z) (pos 1) (pos 0) (grind (arith, ints))

  one-zero : (z : ℤ) → z ≤ℤ pos 0 → one z ≡ pos 0
  one-zero z h = cond-false (int_lt (pos 0) z) (pos 1) (pos 0) (grind (arith, ints))

  one-le : (y z : ℤ) → y ≤ℤ z → one y ≤ℤ one z
  one-le y z h =
      by_lt_z (pos 0) y
      (λ up. omega (arith, ints, one-positive y (omega (arith, ints, up)), one-positive z (omega (arith, ints, up, h))))
      (λ down. by_lt_z (pos 0) z
      (λ up. omega (arith, ints, one-zero y down, one-positive z (omega (arith, ints, up))))
      (λ low. omega (arith, ints, one-zero y down, one-zero z low)))

  -- a cell that the part's matching has, and where it is least
  gone : (i j : ℕ) → i < n → j < n → get_or part.columns i 0 ≡ j → cell rows i j ≡ part.weight → one (cell rows' i j) ≡ pos 0
  gone i j li lj e least =
      let off : cell_weight i j part ≡ part.weight = cond-true (eqb (get_or part.columns i 0) j) part.weight (pos 0) (eq-eqb (get_or part.columns i 0) j e) in
      one-zero (cell rows' i j) (omega (arith, ints, step.less.cells i j li lj, off, least))

  was : (i j : ℕ) → cell rows i j ≡ part.weight → one (cell rows i j) ≡ pos 1
  was i j least = one-positive (cell rows i j) (omega (arith, ints, least, w_positive))

  module _ (count width : ℕ) (mirrored : IsMirrored count width rows) (turned : IsTurned count width part.columns) where
    size : n ≡ count + width
    size = mirrored.long

    counts_le : sum_below count (λ i. sum_below width (λ j. one (cell rows' i j))) ≤ℤ sum_below count (λ i. sum_below width (λ j. one (cell rows i j)))
    counts_le = sum_below-le count (λ i. sum_below width (λ j. one (cell rows' i j))) (λ i. sum_below width (λ j. one (cell rows i j)))
        (λ i li. sum_below-le width (λ j. one (cell rows' i j)) (λ j. one (cell rows i j)) (λ j lj. one-le (cell rows' i j) (cell rows i j) (smaller_cells i j (omega (arith, li, size)) (omega (arith, lj, size)))))

    rows_le : sum_below count (λ i. one (cell rows' i (width + i))) ≤ℤ sum_below count (λ i. one (cell rows i (width + i)))
    rows_le = sum_below-le count (λ i. one (cell rows' i (width + i))) (λ i. one (cell rows i (width + i)))
        (λ i li. one-le (cell rows' i (width + i)) (cell rows i (width + i)) (smaller_cells i (width + i) (omega (arith, li, size)) (omega (arith, li, size))))

    columns_le : sum_below width (λ t. one (cell rows' (count + t) t)) ≤ℤ sum_below width (λ t. one (cell rows (count + t) t))
    columns_le = sum_below-le width (λ t. one (cell rows' (count + t) t)) (λ t. one (cell rows (count + t) t))
        (λ t lt. one-le (cell rows' (count + t) t) (cell rows (count + t) t) (smaller_cells (count + t) t (omega (arith, lt, size)) (omega (arith, lt, size))))

    -- one of the three sums is less
    counts_less : (i j : ℕ) → i < count → j < width → get_or part.columns i 0 ≡ j → cell rows i j ≡ part.weight → (positive_cells count width rows' +ℤ pos 1) ≤ℤ positive_cells count width rows
    counts_less i j li lj e least =
        let here = gone i j (omega (arith, li, size)) (omega (arith, lj, size)) e least in
        let row_less = sum_below-less width j (λ k. one (cell rows' i k)) (λ k. one (cell rows i k)) lj
        (λ k lk. one-le (cell rows' i k) (cell rows i k) (smaller_cells i k (omega (arith, li, size)) (omega (arith, lk, size)))) (omega (arith, ints, here, was i j least)) in
        let all = sum_below-less count i (λ r. sum_below width (λ k. one (cell rows' r k))) (λ r. sum_below width (λ k. one (cell rows r k))) li
        (λ r lr. sum_below-le width (λ k. one (cell rows' r k)) (λ k. one (cell rows r k)) (λ k lk. one-le (cell rows' r k) (cell rows r k) (smaller_cells r k (omega (arith, lr, size)) (omega (arith, lk, size))))) row_less in
        omega (arith, ints, all, rows_le, columns_le)

    lacks_less : (i : ℕ) → i < count → get_or part.columns i 0 ≡ width + i → cell rows i (width + i) ≡ part.weight → (positive_cells count width rows' +ℤ pos 1) ≤ℤ positive_cells count width rows
    lacks_less i li e least =
        let here = gone i (width + i) (omega (arith, li, size)) (omega (arith, li, size)) e least in
        let all = sum_below-less count i (λ r. one (cell rows' r (width + r))) (λ r. one (cell rows r (width + r))) li
        (λ r lr. one-le (cell rows' r (width + r)) (cell rows r (width + r)) (smaller_cells r (width + r) (omega (arith, lr, size)) (omega (arith, lr, size)))) (omega (arith, ints, here, was i (width + i) least)) in
        omega (arith, ints, all, counts_le, columns_le)

    columns_lack_less : (t : ℕ) → t < width → get_or part.columns (count + t) 0 ≡ t → cell rows (count + t) t ≡ part.weight → (positive_cells count width rows' +ℤ pos 1) ≤ℤ positive_cells count width rows
    columns_lack_less t lt e least =
        let here = gone (count + t) t (omega (arith, lt, size)) (omega (arith, lt, size)) e least in
        let all = sum_below-less width t (λ r. one (cell rows' (count + r) r)) (λ r. one (cell rows (count + r) r)) lt
        (λ r lr. one-le (cell rows' (count + r) r) (cell rows (count + r) r) (smaller_cells (count + r) r (omega (arith, lr, size)) (omega (arith, lr, size)))) (omega (arith, ints, here, was (count + t) t least)) in
        omega (arith, ints, all, counts_le, rows_le)

    upper : (i : ℕ) → i < count → cell rows i (get_or part.columns i 0) ≡ part.weight → (positive_cells count width rows' +ℤ pos 1) ≤ℤ positive_cells count width rows
    upper i li least = elim (cases_lt (get_or part.columns i 0) width) [
      | inl low ↦ counts_less i (get_or part.columns i 0) li low refl least
      | inr high ↦ (
          let k : ℕ = get_or part.columns i 0 - width in
          let e : get_or part.columns i 0 ≡ width + k = omega (arith, high) in
          let lk : k < count = omega (arith, step.matching.within i (omega (arith, li, size)), size, e) in
          let there : cell rows i (width + k) ≡ part.weight = subst (λ (x : ℕ). cell rows i x ≡ part.weight) e least in
          elim (cases_eq i k) [
            | inl q ↦ lacks_less i li (omega (arith, e, q)) (subst (λ (x : ℕ). cell rows i (width + x) ≡ part.weight) (sym q) there)
            | inr ne ↦ absurd (omega (arith, ints, mirrored.right i k li lk ne, there, w_positive))
          ])
    ]

    lower : (t : ℕ) → t < width → cell rows (count + t) (get_or part.columns (count + t) 0) ≡ part.weight → (positive_cells count width rows' +ℤ pos 1) ≤ℤ positive_cells count width rows
    lower t lt least = elim (cases_lt (get_or part.columns (count + t) 0) width) [
      | inl low ↦ elim (cases_eq t (get_or part.columns (count + t) 0)) [
        | inl q ↦ columns_lack_less t lt (sym q) (subst (λ (x : ℕ). cell rows (count + t) x ≡ part.weight) (sym q) least)
        | inr ne ↦ absurd (omega (arith, ints, mirrored.below t (get_or part.columns (count + t) 0) lt low ne, least, w_positive))
      ]
      | inr high ↦ (
          let k : ℕ = get_or part.columns (count + t) 0 - width in
          let e : get_or part.columns (count + t) 0 ≡ width + k = omega (arith, high) in
          let lk : k < count = omega (arith, step.matching.within (count + t) (omega (arith, lt, size)), size, e) in
          let there : cell rows (count + t) (width + k) ≡ part.weight = subst (λ (x : ℕ). cell rows (count + t) x ≡ part.weight) e least in
          counts_less k t lk lt (turned.back k t lk lt e) (sym (mirrored.corner t k lt lk) ∙ there))
    ]

    pub fewer_positive : (positive_cells count width rows' +ℤ pos 1) ≤ℤ positive_cells count width rows
    fewer_positive =
        let i : ℕ = step.least.reached.0 in
        let li : i < n = step.least.reached.1.0 in
        let least = step.least.reached.1.1 in
        elim (cases_lt i count) [
          | inl before ↦ upper i before least
          | inr behind ↦ (
              let t : ℕ = i - count in
              let q : i ≡ count + t = omega (arith, behind) in
              lower t (omega (arith, li, size, q)) (subst (λ (x : ℕ). cell rows x (get_or part.columns x 0) ≡ part.weight) q least))
        ]

    same_flag : (k t : ℕ) → k < count → t < width → cell_weight (count + t) (width + k) part ≡ cell_weight k t part
    same_flag k t lk lt = elim (cases_eq (get_or part.columns k 0) t) [
      | inl e ↦ cond-true (eqb (get_or part.columns (count + t) 0) (width + k)) part.weight (pos 0) (eq-eqb (get_or part.columns (count + t) 0) (width + k) (turned.there k t lk lt e))
          ∙ sym (cond-true (eqb (get_or part.columns k 0) t) part.weight (pos 0) (eq-eqb (get_or part.columns k 0) t e))
      | inr ne ↦ cond-false (eqb (get_or part.columns (count + t) 0) (width + k)) part.weight (pos 0) (ne_eqb (get_or part.columns (count + t) 0) (width + k) (λ q. ne (turned.back k t lk lt q)))
          ∙ sym (cond-false (eqb (get_or part.columns k 0) t) part.weight (pos 0) (ne_eqb (get_or part.columns k 0) t ne))
    ]

    -- the table stays mirrored
    pub mirrored-less : IsMirrored count width rows'
    mirrored-less = record {
      long = step.less.long ∙ size;
      right = λ i k li lk ne.
          let a : i < n = omega (arith, li, size) in
          let b : width + k < n = omega (arith, lk, size) in
          omega (arith, ints, nonnegative_less i (width + k) a b, smaller_cells i (width + k) a b, mirrored.right i k li lk ne);
      below = λ t j lt lj ne.
          let a : count + t < n = omega (arith, lt, size) in
          let b : j < n = omega (arith, lj, size) in
          omega (arith, ints, nonnegative_less (count + t) j a b, smaller_cells (count + t) j a b, mirrored.below t j lt lj ne);
      corner = λ t k lt lk.
          omega (arith, ints, step.less.cells (count + t) (width + k) (omega (arith, lt, size)) (omega (arith, lk, size)), step.less.cells k t (omega (arith, lk, size)) (omega (arith, lt, size)), same_flag k t lk lt, mirrored.corner t k lt lk);
    }

pub line_sum-nonnegative : (rows : List (List ℤ)) (sum : ℤ) → HasLineSum rows sum → pos 0 ≤ℤ sum
line_sum-nonnegative rows sum table =
    let some = table.some_row in
    let first : 0 < length rows = omega (arith, some) in
    omega (arith, ints, cell-upto rows sum table 0 0 first first, table.nonnegative 0 0 first first)

pub abs-less : (a b : ℤ) → pos 0 ≤ℤ b → b <ℤ a → unsigned_abs b < unsigned_abs a
abs-less (pos a) (pos b) low less = omega (arith, ints, less)
abs-less (pos a) (negsuc b) low less = absurd (omega (arith, ints, low))
abs-less (negsuc a) (pos b) low less = absurd (omega (arith, ints, less))
abs-less (negsuc a) (negsuc b) low less = absurd (omega (arith, ints, low))

pub not_above : (x : ℤ) → int_lt (pos 0) x ≡ false → x ≤ℤ pos 0
not_above x e = grind (arith, ints)
