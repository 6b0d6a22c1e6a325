-- Rows and columns that lack nothing are matched among the counts.
use Rattle.std.proofs.Common.{◌≡◌, ℕ, ◌+◌, ◌-◌, ◌<◌, true, false, List, length, cond, eqb, get_or, inl, inr, refl, arith, ap, ◌∙◌, subst}
use Rattle.std.specs.Prelude.{ℤ, pos, ◌-ℤ◌, ◌≤ℤ◌}
use Rattle.std.proofs.lemmas.Int.{ints}
use Rattle.std.proofs.lemmas.Bool.{cases_lt, eqb-true}
use Rattle.sg_matchings.specs.Tables.{cell, IsPerfectMatching}
use Rattle.sg_matchings.specs.Padding.{IsPadded, FullAreMatched, row_total, column_total}
use Rattle.sg_matchings.proofs.Places.{some_positive}

-- what lacks nothing
nothing : (i k : ℕ) (z : ℤ) → z ≡ pos 0 → pos 1 ≤ℤ cond (eqb i k) z (pos 0) → ⊥
nothing i k z e = elim (eqb i k) as (λ b. pos 1 ≤ℤ cond b z (pos 0) → ⊥) [ true ↦ (λ h. absurd (omega (arith, ints, h, e))) | false ↦ (λ h. absurd (omega (arith, ints, h))) ]

-- a positive own cell
own : (t j : ℕ) (z : ℤ) → pos 1 ≤ℤ cond (eqb t j) z (pos 0) → eqb t j ≡ true
own t j z = elim (eqb t j) as (λ b. pos 1 ≤ℤ cond b z (pos 0) → b ≡ true) [ true ↦ (λ h. refl) | false ↦ (λ h. absurd (omega (arith, ints, h))) ]

pub is_one : (x j : ℕ) → pos 1 ≤ℤ cond (eqb x j) (pos 1) (pos 0) → x ≡ j
is_one x j h = eqb-true x j (own x j (pos 1) h)

module _ (counts : List (List ℤ)) (width : ℕ) (most : ℤ) (rows : List (List ℤ)) (columns : List ℕ) (padded : IsPadded counts width most rows) (is : IsPerfectMatching rows columns) where
  full_row : (i : ℕ) → i < length counts → row_total counts width i ≡ most → get_or columns i 0 < width
  full_row i lt full = elim (cases_lt (get_or columns i 0) width) [
    | inl inside ↦ inside
    | inr behind ↦ (
        let k : ℕ = get_or columns i 0 - width in
        let e : get_or columns i 0 ≡ width + k = omega (arith, behind) in
        let li : i < length rows = omega (arith, lt, padded.long) in
        let lk : k < length counts = omega (arith, is.within i li, padded.long, e) in
        let up : pos 1 ≤ℤ cell rows i (width + k) = subst (λ (x : ℕ). pos 1 ≤ℤ cell rows i x) e (is.positive i li) in
        absurd (nothing i k (most -ℤ row_total counts width i) (omega (arith, ints, full)) (subst (λ (z : ℤ). pos 1 ≤ℤ z) (padded.right i k lt lk) up)))
  ]

  full_column : (j : ℕ) → j < width → column_total counts j ≡ most → (i : ℕ) × ((i < length counts) × (get_or columns i 0 ≡ j))
  full_column j lt full =
      let lj : j < length rows = omega (arith, lt, padded.long) in
      let some = some_positive (length columns) (λ i. cond (eqb (get_or columns i 0) j) (pos 1) (pos 0)) (omega (arith, ints, is.each_column j lj)) in
      let i : ℕ = some.0 in
      let e : get_or columns i 0 ≡ j = is_one (get_or columns i 0) j some.1.1 in
      let li : i < length rows = omega (arith, some.1.0, is.each_row) in
      elim (cases_lt i (length counts)) [
        | inl inside ↦ (i, (inside, e))
        | inr behind ↦ (
            let t : ℕ = i - length counts in
            let q : i ≡ length counts + t = omega (arith, behind) in
            let l : t < width = omega (arith, li, padded.long, q) in
            let up : pos 1 ≤ℤ cell rows i j = subst (λ (x : ℕ). pos 1 ≤ℤ cell rows i x) e (is.positive i li) in
            let there : pos 1 ≤ℤ cell rows (length counts + t) j = subst (λ (x : ℕ). pos 1 ≤ℤ cell rows x j) q up in
            let own_cell : pos 1 ≤ℤ cond (eqb t j) (most -ℤ column_total counts t) (pos 0) = subst (λ (z : ℤ). pos 1 ≤ℤ z) (padded.below t j l lt) there in
            let same : t ≡ j = eqb-true t j (own t j (most -ℤ column_total counts t) own_cell) in
            let lacks : column_total counts t ≡ most = ap (λ (x : ℕ). column_total counts x) same ∙ full in
            absurd (nothing t j (most -ℤ column_total counts t) (omega (arith, ints, lacks)) own_cell))
      ]

pub full_matched : FullAreMatched
full_matched counts width most rows columns padded is = (full_row counts width most rows columns padded is, full_column counts width most rows columns padded is)
