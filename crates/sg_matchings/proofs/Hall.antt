-- No search from a column that is not matched yet is blocked: what was reached would have one column more than rows, and all of their sums.
use Rattle.std.proofs.Common.{◌≡◌, ℕ, ◌<◌, List, Bool, true, false, length, cond, eqb, get_or, inl, inr, refl, arith, ap, sym, ◌∙◌, subst}
use Rattle.std.specs.Prelude.{ℤ, pos, ◌+ℤ◌, ◌≤ℤ◌}
use Rattle.std.proofs.lemmas.Int.{ints, by_lt_z}
use Rattle.std.proofs.lemmas.Bool.{cases_eq, cases_Bool, true≢false, cond-true, cond-false, eq-eqb, ne_eqb, eqb-true}
use Rattle.sg_linear.specs.Sums.{sum_below}
use Rattle.sg_matchings.specs.Sums.{occurrences}
use Rattle.sg_matchings.specs.Tables.{cell, HasLineSum}
use Rattle.sg_matchings.specs.Matchings.{is_seen, IsSearched}
use Rattle.sg_matchings.proofs.Places.{sum_below-same, sum_below-le, sum_below-zero, sum_below-nonnegative, sum_below-add, sum_below-exchange, sum_below-once, some_positive, Hits, hits}

cond-nonnegative : (b : Bool) (x : ℤ) → pos 0 ≤ℤ x → pos 0 ≤ℤ cond b x (pos 0)
cond-nonnegative true x h = h
cond-nonnegative false x h = omega (arith, ints)

cond-le : (b : Bool) (x : ℤ) → pos 0 ≤ℤ x → cond b x (pos 0) ≤ℤ x
cond-le true x h = omega (arith, ints)
cond-le false x h = h

cond-some : (b : Bool) (x : ℤ) → pos 1 ≤ℤ cond b x (pos 0) → b ≡ true
cond-some true x h = refl
cond-some false x h = absurd (omega (arith, ints, h))

cond-sum : (n : ℕ) (b : Bool) (f : ℕ → ℤ) → sum_below n (λ j. cond b (f j) (pos 0)) ≡ cond b (sum_below n f) (pos 0)
cond-sum n true f = refl
cond-sum n false f = sum_below-zero n (λ j. pos 0) (λ i l. refl)

module _ (rows : List (List ℤ)) (sum : ℤ) (above : pos 1 ≤ℤ sum) (table : HasLineSum rows sum) (matched : List ℕ) (long : length matched ≡ length rows)
    (column : ℕ) (inside : column < length rows) (once : (j : ℕ) → j < length rows → occurrences j matched ≤ℤ pos 1) (free : occurrences column matched ≡ pos 0)
    (seen : List Bool) (own : IsSearched rows column seen (length rows))
    (closed : (i : ℕ) → is_seen seen i ≡ true → (get_or matched i 0 < length rows) × IsSearched rows (get_or matched i 0) seen (length rows)) where
  abbrev size : ℕ
  size = length rows

  -- the sum over the reached rows of a column
  abbrev reached : ℕ → ℤ
  reached j = sum_below size (λ i. cond (is_seen seen i) (cell rows i j) (pos 0))

  -- the sum of the reached rows
  abbrev all : ℤ
  all = sum_below size (λ i. cond (is_seen seen i) sum (pos 0))

  -- for a column the line sum, as often as it belongs to a reached row
  abbrev held : ℕ → ℤ
  held j = sum_below size (λ i. cond (is_seen seen i) (cond (eqb (get_or matched i 0) j) sum (pos 0)) (pos 0))

  abbrev weight : ℕ → ℤ
  weight j = cond (eqb column j) sum (pos 0) +ℤ held j

  sum-nonnegative : pos 0 ≤ℤ sum
  sum-nonnegative = omega (arith, ints, above)

  all-reached : all ≡ sum_below size reached
  all-reached =
      sum_below-same size (λ i. cond (is_seen seen i) sum (pos 0)) (λ i. sum_below size (λ j. cond (is_seen seen i) (cell rows i j) (pos 0)))
      (λ i lt. ap (λ (z : ℤ). cond (is_seen seen i) z (pos 0)) (sym (table.rows_sum i lt)) ∙ sym (cond-sum size (is_seen seen i) (λ j. cell rows i j)))
      ∙ sum_below-exchange size size (λ i j. cond (is_seen seen i) (cell rows i j) (pos 0))

  all-held : sum_below size held ≡ all
  all-held =
      sum_below-exchange size size (λ j i. cond (is_seen seen i) (cond (eqb (get_or matched i 0) j) sum (pos 0)) (pos 0))
      ∙ sum_below-same size (λ i. sum_below size (λ j. cond (is_seen seen i) (cond (eqb (get_or matched i 0) j) sum (pos 0)) (pos 0))) (λ i. cond (is_seen seen i) sum (pos 0)) (λ i lt.
      cond-sum size (is_seen seen i) (λ j. cond (eqb (get_or matched i 0) j) sum (pos 0))
      ∙ elim (cases_Bool (is_seen seen i)) [
        | inl t ↦ ap (λ (z : ℤ). cond (is_seen seen i) z (pos 0)) (sum_below-once size (get_or matched i 0) sum (closed i t).0)
        | inr f ↦ cond-false (is_seen seen i) (sum_below size (λ j. cond (eqb (get_or matched i 0) j) sum (pos 0))) (pos 0) f ∙ sym (cond-false (is_seen seen i) sum (pos 0) f)
      ])

  all-weight : sum_below size weight ≡ sum +ℤ all
  all-weight = omega (arith, ints, sum_below-add size (λ j. cond (eqb column j) sum (pos 0)) held, sum_below-once size column sum inside, all-held)

  reached-nonnegative : (j : ℕ) → j < size → pos 0 ≤ℤ reached j
  reached-nonnegative j j_lt = sum_below-nonnegative size (λ i. cond (is_seen seen i) (cell rows i j) (pos 0)) (λ i lt. cond-nonnegative (is_seen seen i) (cell rows i j) (table.nonnegative i j lt j_lt))

  -- a searched column lies in the reached rows
  reached-searched : (j : ℕ) → j < size → IsSearched rows j seen size → reached j ≡ sum
  reached-searched j lt searched =
      sum_below-same size (λ i. cond (is_seen seen i) (cell rows i j) (pos 0)) (λ i. cell rows i j) (λ i l. elim (cases_Bool (is_seen seen i)) [
        | inl t ↦ cond-true (is_seen seen i) (cell rows i j) (pos 0) t
        | inr f ↦ (
            by_lt_z (pos 0) (cell rows i j)
            (λ up. absurd (true≢false (sym (searched i l (omega (arith, ints, up))) ∙ f)))
            (λ down. cond-false (is_seen seen i) (cell rows i j) (pos 0) f ∙ omega (arith, ints, down, table.nonnegative i j l lt)))
      ])
      ∙ table.columns_sum j lt

  matched_hits : (j : ℕ) → Hits (length matched) (λ i. eqb (get_or matched i 0) j) sum
  matched_hits j = hits (length matched) (λ i. eqb (get_or matched i 0) j) sum sum-nonnegative

  held-le : (j : ℕ) → held j ≤ℤ sum_below (length matched) (λ i. cond (eqb (get_or matched i 0) j) sum (pos 0))
  held-le j =
      let le = sum_below-le size (λ i. cond (is_seen seen i) (cond (eqb (get_or matched i 0) j) sum (pos 0)) (pos 0)) (λ i. cond (eqb (get_or matched i 0) j) sum (pos 0))
      (λ i lt. cond-le (is_seen seen i) (cond (eqb (get_or matched i 0) j) sum (pos 0)) (cond-nonnegative (eqb (get_or matched i 0) j) sum sum-nonnegative)) in
      subst (λ (n : ℕ). held j ≤ℤ sum_below n (λ i. cond (eqb (get_or matched i 0) j) sum (pos 0))) (sym long) le

  weight-le : (j : ℕ) → j < size → weight j ≤ℤ reached j
  weight-le j lt = elim (cases_eq column j) [
    | inl e ↦ (
        let none : occurrences j matched ≤ℤ pos 0 = subst (λ (x : ℕ). occurrences x matched ≤ℤ pos 0) e (omega (arith, ints, free)) in
        let nothing = (matched_hits j).none none in
        let full : reached j ≡ sum = reached-searched j lt (subst (λ (x : ℕ). IsSearched rows x seen size) e own) in
        let first = cond-true (eqb column j) sum (pos 0) (eq-eqb column j e) in
        omega (arith, ints, nothing, full, first, held-le j))
    | inr ne ↦ (
        let first = cond-false (eqb column j) sum (pos 0) (ne_eqb column j ne) in
        by_lt_z (pos 0) (held j)
        (λ up.
        let some = some_positive size (λ i. cond (is_seen seen i) (cond (eqb (get_or matched i 0) j) sum (pos 0)) (pos 0)) (omega (arith, ints, up)) in
        let i : ℕ = some.0 in
        let t : is_seen seen i ≡ true = cond-some (is_seen seen i) (cond (eqb (get_or matched i 0) j) sum (pos 0)) some.1.1 in
        let inner : pos 1 ≤ℤ cond (eqb (get_or matched i 0) j) sum (pos 0) =
        subst (λ (z : ℤ). pos 1 ≤ℤ z) (cond-true (is_seen seen i) (cond (eqb (get_or matched i 0) j) sum (pos 0)) (pos 0) t) some.1.1 in
        let e : get_or matched i 0 ≡ j = eqb-true (get_or matched i 0) j (cond-some (eqb (get_or matched i 0) j) sum inner) in
        let full : reached j ≡ sum = reached-searched j lt (subst (λ (x : ℕ). IsSearched rows x seen size) e (closed i t).1) in
        let most = (matched_hits j).once (once j lt) in
        omega (arith, ints, full, most, first, held-le j))
        (λ down. omega (arith, ints, down, first, reached-nonnegative j lt)))
  ]

  pub never_blocked : ⊥
  never_blocked = absurd (omega (arith, ints, sum_below-le size weight reached weight-le, all-weight, all-reached, above))
