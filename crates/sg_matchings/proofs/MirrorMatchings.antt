-- The mirror of a perfect matching of a mirrored table is one too, and is its own mirror.
use Rattle.std.proofs.Common.{◌≡◌, ◌≢◌, ◌⊎◌, ℕ, ◌+◌, ◌-◌, ◌<◌, ◌≤◌, List, length, cond, eqb, get_or, inl, inr, refl, arith, ap, sym, ◌∙◌, subst}
use Rattle.std.specs.Prelude.{ℤ, pos, ◌≤ℤ◌}
use Rattle.std.proofs.lemmas.Int.{ints}
use Rattle.std.proofs.lemmas.Bool.{cases_eq, cases_lt, cond-true, cond-false, eq-eqb, ne_eqb}
use Rattle.sg_matchings.specs.Sums.{occurrences}
use Rattle.sg_matchings.specs.Tables.{cell, IsPerfectMatching}
use Rattle.sg_matchings.specs.Mirrors.{AreSeparate, IsMirror, IsMirrored, IsTurned}
use Rattle.sg_matchings.proofs.Places.{some_positive, sum_below-same, sum_below-once}
use Rattle.sg_matchings.proofs.Counts.{hit}
use Rattle.sg_matchings.proofs.Full.{is_one}
use Rattle.sg_matchings.proofs.Perfect.{hit-same, hit-apart}

-- a column that one row has
once_at : (xs : List ℕ) (j i : ℕ) → i < length xs → get_or xs i 0 ≡ j → ((k : ℕ) → k < length xs → get_or xs k 0 ≡ j → k ≡ i) → occurrences j xs ≡ pos 1
once_at xs j i lt e alone =
    sum_below-same (length xs) (λ k. hit (get_or xs k 0) j) (λ k. cond (eqb i k) (pos 1) (pos 0)) (λ k l. elim (cases_eq i k) [
      | inl q ↦ (let at : get_or xs k 0 ≡ j = subst (λ (x : ℕ). get_or xs x 0 ≡ j) q e in
          let one : hit (get_or xs k 0) j ≡ pos 1 = ap (λ (x : ℕ). hit x j) at ∙ hit-same j in
          omega (arith, ints, one, cond-true (eqb i k) (pos 1) (pos 0) (eq-eqb i k q)))
      | inr ne ↦ omega (arith, ints, hit-apart (get_or xs k 0) j (λ q. ne (sym (alone k l q))), cond-false (eqb i k) (pos 1) (pos 0) (ne_eqb i k ne))
    ]) ∙ sum_below-once (length xs) i (pos 1) lt

-- where a row stands: on the counts matched or not, or below them turned or alone
data Stands (count width : ℕ) (m s : List ℕ) (x : ℕ) : Type 0 where
  matched_row : x < count → get_or m x 0 < width → get_or s x 0 ≡ get_or m x 0 → Stands count width m s x
  free_row : x < count → width ≤ get_or m x 0 → get_or s x 0 ≡ width + x → Stands count width m s x
  turned : (i t : ℕ) → x ≡ count + t → t < width → i < count → get_or m i 0 ≡ t → get_or s x 0 ≡ width + i → Stands count width m s x
  alone : (t : ℕ) → x ≡ count + t → t < width → ((i : ℕ) → i < count → get_or m i 0 ≢ t) → get_or s x 0 ≡ t → Stands count width m s x

module _ (count width : ℕ) (rows : List (List ℤ)) (mirrored : IsMirrored count width rows) (m : List ℕ) (is : IsPerfectMatching rows m) (s : List ℕ) (mirror : IsMirror count width m s) where
  abbrev n : ℕ
  n = length rows

  size : n ≡ count + width
  size = mirrored.long

  -- a row of the counts that is matched behind them has its own column
  own_row : (i : ℕ) → i < count → width ≤ get_or m i 0 → get_or m i 0 ≡ width + i
  own_row i lt high =
      let k : ℕ = get_or m i 0 - width in
      let e : get_or m i 0 ≡ width + k = omega (arith, high) in
      let li : i < n = omega (arith, lt, size) in
      let lk : k < count = omega (arith, is.within i li, size, e) in
      let up : pos 1 ≤ℤ cell rows i (width + k) = subst (λ (x : ℕ). pos 1 ≤ℤ cell rows i x) e (is.positive i li) in
      elim (cases_eq i k) [ inl q ↦ omega (arith, e, q) | inr ne ↦ absurd (omega (arith, ints, up, mirrored.right i k lt lk ne)) ]

  -- a row below the counts that has a column of theirs has its own
  own_column : (t : ℕ) → t < width → get_or m (count + t) 0 < width → get_or m (count + t) 0 ≡ t
  own_column t lt low =
      let up : pos 1 ≤ℤ cell rows (count + t) (get_or m (count + t) 0) = is.positive (count + t) (omega (arith, lt, size)) in
      elim (cases_eq t (get_or m (count + t) 0)) [ inl q ↦ sym q | inr ne ↦ absurd (omega (arith, ints, up, mirrored.below t (get_or m (count + t) 0) lt low ne)) ]

  -- the row that has a column of the counts
  found : (t : ℕ) → t < width → ((i : ℕ) × ((i < count) × (get_or m i 0 ≡ t))) ⊎ (get_or m (count + t) 0 ≡ t)
  found t lt =
      let some = some_positive (length m) (λ i. hit (get_or m i 0) t) (omega (arith, ints, is.each_column t (omega (arith, lt, size)))) in
      let x : ℕ = some.0 in
      let e : get_or m x 0 ≡ t = is_one (get_or m x 0) t some.1.1 in
      elim (cases_lt x count) [
        | inl before ↦ inl (x, (before, e))
        | inr behind ↦ (
            let u : ℕ = x - count in
            let q : x ≡ count + u = omega (arith, behind) in
            let lu : u < width = omega (arith, some.1.0, is.each_row, size, q) in
            let here : get_or m (count + u) 0 ≡ t = subst (λ (y : ℕ). get_or m y 0 ≡ t) q e in
            let same : u ≡ t = sym (own_column u lu (omega (arith, here, lt))) ∙ here in
            inr (subst (λ (y : ℕ). get_or m (count + y) 0 ≡ t) same here))
      ]

  -- the own row of a column has it alone
  no_other : (t : ℕ) → t < width → get_or m (count + t) 0 ≡ t → (i : ℕ) → i < count → get_or m i 0 ≢ t
  no_other t lt e i li q = is.different i (count + t) (omega (arith, li)) (omega (arith, lt, size)) (q ∙ sym e)

  stands : (x : ℕ) → x < n → Stands count width m s x
  stands x lt = elim (cases_lt x count) [
    | inl row ↦ elim (cases_lt (get_or m x 0) width) [
      | inl low ↦ matched_row row low (mirror.inside x row low)
      | inr high ↦ free_row row high (mirror.free_row x row high)
    ]
    | inr behind ↦ (
        let t : ℕ = x - count in
        let q : x ≡ count + t = omega (arith, behind) in
        let l : t < width = omega (arith, lt, size, q) in
        elim (found t l) [
          | inl pair ↦ turned pair.0 t q l pair.1.0 pair.1.1
              (subst (λ (y : ℕ). get_or s y 0 ≡ width + pair.0) (sym q) (subst (λ (y : ℕ). get_or s (count + y) 0 ≡ width + pair.0) pair.1.1 (mirror.turned pair.0 pair.1.0 (omega (arith, pair.1.1, l)))))
          | inr e ↦ alone t q l (no_other t l e) (subst (λ (y : ℕ). get_or s y 0 ≡ t) (sym q) (mirror.free_column t l (no_other t l e)))
        ])
  ]

  same_row : (i k : ℕ) → i < count → k < count → get_or m i 0 ≡ get_or m k 0 → i ≡ k
  same_row i k li lk e = elim (cases_eq i k) [
    | inl q ↦ q
    | inr ne ↦ elim (cases_lt i k) [
      | inl before ↦ absurd (is.different i k before (omega (arith, lk, size)) e)
      | inr after ↦ absurd (is.different k i (omega (arith, after, ne)) (omega (arith, li, size)) (sym e))
    ]
  ]

  one_place : (x y : ℕ) → Stands count width m s x → Stands count width m s y → get_or s x 0 ≡ get_or s y 0 → x ≡ y
  one_place x y (matched_row lx low ex) (matched_row ly low' ey) e = same_row x y lx ly (sym ex ∙ (e ∙ ey))
  one_place x y (matched_row lx low ex) (free_row ly high ey) e = absurd (omega (arith, ex, ey, e, low))
  one_place x y (matched_row lx low ex) (turned i t q lt li at ey) e = absurd (omega (arith, ex, ey, e, low))
  one_place x y (matched_row lx low ex) (alone t q lt none ey) e = absurd (none x lx (sym ex ∙ (e ∙ ey)))
  one_place x y (free_row lx high ex) (matched_row ly low ey) e = absurd (omega (arith, ex, ey, e, low))
  one_place x y (free_row lx high ex) (free_row ly high' ey) e = omega (arith, ex, ey, e)
  one_place x y (free_row lx high ex) (turned i t q lt li at ey) e =
      let same : i ≡ x = omega (arith, ex, ey, e) in
      absurd (omega (arith, ap (λ (z : ℕ). get_or m z 0) same, at, lt, high))
  one_place x y (free_row lx high ex) (alone t q lt none ey) e = absurd (omega (arith, ex, ey, e, lt))
  one_place x y (turned i t q lt li at ex) (matched_row ly low ey) e = absurd (omega (arith, ex, ey, e, low))
  one_place x y (turned i t q lt li at ex) (free_row ly high ey) e =
      let same : i ≡ y = omega (arith, ex, ey, e) in
      absurd (omega (arith, ap (λ (z : ℕ). get_or m z 0) same, at, lt, high))
  one_place x y (turned i t q lt li at ex) (turned k u p lu lk at' ey) e =
      let same : i ≡ k = omega (arith, ex, ey, e) in
      omega (arith, ap (λ (z : ℕ). get_or m z 0) same, at, at', q, p)
  one_place x y (turned i t q lt li at ex) (alone u p lu none ey) e = absurd (omega (arith, ex, ey, e, lu))
  one_place x y (alone t q lt none ex) (matched_row ly low ey) e = absurd (none y ly (sym ey ∙ (sym e ∙ ex)))
  one_place x y (alone t q lt none ex) (free_row ly high ey) e = absurd (omega (arith, ex, ey, e, lt))
  one_place x y (alone t q lt none ex) (turned k u p lu lk at ey) e = absurd (omega (arith, ex, ey, e, lt))
  one_place x y (alone t q lt none ex) (alone u p lu none' ey) e = omega (arith, ex, ey, e, q, p)

  inside : (x : ℕ) → Stands count width m s x → get_or s x 0 < n
  inside x (matched_row lx low e) = omega (arith, low, e, size)
  inside x (free_row lx high e) = omega (arith, lx, e, size)
  inside x (turned i t q lt li at e) = omega (arith, li, e, size)
  inside x (alone t q lt none e) = omega (arith, lt, e, size)

  cell_at : (x y z : ℕ) → get_or s x 0 ≡ y → z ≡ x → pos 1 ≤ℤ cell rows z y → pos 1 ≤ℤ cell rows x (get_or s x 0)
  cell_at x y z e q h = subst (λ (w : ℕ). pos 1 ≤ℤ cell rows x w) (sym e) (subst (λ (w : ℕ). pos 1 ≤ℤ cell rows w y) q h)

  is_positive : (x : ℕ) → x < n → Stands count width m s x → pos 1 ≤ℤ cell rows x (get_or s x 0)
  is_positive x l (matched_row lx low e) = cell_at x (get_or m x 0) x e refl (is.positive x l)
  is_positive x l (free_row lx high e) = cell_at x (width + x) x e refl (subst (λ (w : ℕ). pos 1 ≤ℤ cell rows x w) (own_row x lx high) (is.positive x l))
  is_positive x l (turned i t q lt li at e) =
      let up : pos 1 ≤ℤ cell rows i t = subst (λ (w : ℕ). pos 1 ≤ℤ cell rows i w) at (is.positive i (omega (arith, li, size))) in
      cell_at x (width + i) (count + t) e (sym q) (omega (arith, ints, up, mirrored.corner t i lt li))
  is_positive x l (alone t q lt none e) = elim (found t lt) [
    | inl pair ↦ absurd (none pair.0 pair.1.0 pair.1.1)
    | inr here ↦ cell_at x t (count + t) e (sym q) (subst (λ (w : ℕ). pos 1 ≤ℤ cell rows (count + t) w) here (is.positive (count + t) (omega (arith, lt, size))))
  ]

  -- the row that has a column
  row_of : (j : ℕ) → j < n → (x : ℕ) × ((x < n) × (get_or s x 0 ≡ j))
  row_of j lt = elim (cases_lt j width) [
    | inl low ↦ elim (found j low) [
      | inl pair ↦ (pair.0, (omega (arith, pair.1.0, size), mirror.inside pair.0 pair.1.0 (omega (arith, pair.1.1, low)) ∙ pair.1.1))
      | inr e ↦ (count + j, (omega (arith, low, size), mirror.free_column j low (no_other j low e)))
    ]
    | inr high ↦ (
        let k : ℕ = j - width in
        let q : width + k ≡ j = omega (arith, high) in
        let lk : k < count = omega (arith, lt, size, q) in
        elim (cases_lt (get_or m k 0) width) [
          | inl l ↦ (count + get_or m k 0, (omega (arith, l, size), mirror.turned k lk l ∙ q))
          | inr h ↦ (k, (omega (arith, lk, size), mirror.free_row k lk h ∙ q))
        ])
  ]

  long : length s ≡ n
  long = mirror.long ∙ sym size

  pub mirror-perfect : IsPerfectMatching rows s
  mirror-perfect = record {
    each_row = long;
    within = λ x lt. inside x (stands x lt);
    positive = λ x lt. is_positive x lt (stands x lt);
    different = λ x y before lt e. absurd (omega (arith, before, one_place x y (stands x (omega (arith, before, lt))) (stands y lt) e));
    each_column = λ j lt.
        let r = row_of j lt in
        once_at s j r.0 (omega (arith, r.1.0, long)) r.1.1 (λ k l q. one_place k r.0 (stands k (omega (arith, l, long))) (stands r.0 r.1.0) (q ∙ sym r.1.1));
  }

  pub mirror-turned : IsTurned count width s
  mirror-turned = record {
    there = λ k t lk lt e. elim (cases_lt (get_or m k 0) width) [
      | inl low ↦ (let at : get_or m k 0 ≡ t = sym (mirror.inside k lk low) ∙ e in
          subst (λ (x : ℕ). get_or s (count + x) 0 ≡ width + k) at (mirror.turned k lk low))
      | inr high ↦ absurd (omega (arith, mirror.free_row k lk high, e, lt))
    ];
    back = λ k t lk lt e. elim (found t lt) [
      | inl pair ↦ (
          let at : get_or s (count + t) 0 ≡ width + pair.0 = subst (λ (y : ℕ). get_or s (count + y) 0 ≡ width + pair.0) pair.1.1 (mirror.turned pair.0 pair.1.0 (omega (arith, pair.1.1, lt))) in
          let same : pair.0 ≡ k = omega (arith, at, e) in
          subst (λ (y : ℕ). get_or s y 0 ≡ t) same (mirror.inside pair.0 pair.1.0 (omega (arith, pair.1.1, lt)) ∙ pair.1.1))
      | inr here ↦ absurd (omega (arith, mirror.free_column t lt (no_other t lt here), e, lt))
    ];
  }

pub matching-apart : (count width : ℕ) (rows : List (List ℤ)) (m : List ℕ) → IsMirrored count width rows → IsPerfectMatching rows m → AreSeparate count width m
matching-apart count width rows m mirrored is i k before lt low = is.different i k before (omega (arith, lt, mirrored.long))
