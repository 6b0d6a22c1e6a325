-- A number added at a place of a list.
use Rattle.std.proofs.Common.{◌≡◌, ◌≢◌, ◌∙◌, ℕ, zero, suc, ◌-◌, ◌<◌, ◌≤◌, true, false, List, length, ℤ, pos, ◌+ℤ◌, eqb, sym, ap, arith, inl, inr, slice_index_or}
use Rattle.std.specs.Prelude.{slice_set}
use Rattle.std.proofs.lemmas.Bool.{cases_eq}
use Rattle.std.proofs.lemmas.Bool.Decides.{nat_tests}
use Rattle.std.proofs.lemmas.Int.{ints}
use Rattle.std.proofs.lemmas.List.{get_or-set_other, get_or-set_same}
use Rattle.sg_model.specs.Limits.{IsCount}
use Rattle.sg_model.specs.Sums.{nth}
use Rattle.sg_bounds.specs.Coverage.{where_same}

pub nth-at : (ws : List ℤ) (t : ℕ) → 1 ≤ t → nth ws t (pos 0) ≡ slice_index_or ws (t - 1) (pos 0)
nth-at ws zero h = absurd (omega arith)
nth-at ws (suc k) h = let e : suc k - 1 ≡ k = omega arith in ap (λ (i : ℕ). slice_index_or ws i (pos 0)) (sym e)

pub added-at : (ws : List ℤ) (t s : ℕ) (by sum : ℤ) → IsCount 1 (length ws) t → IsCount 1 (length ws) s → sum ≡ slice_index_or ws (t - 1) (pos 0) +ℤ by
    → nth (slice_set ws (t - 1) sum) s (pos 0) ≡ nth ws s (pos 0) +ℤ where_same t s by
added-at ws t s by sum known is e =
    let at = nth-at (slice_set ws (t - 1) sum) s is.at_least in
    let before = nth-at ws s is.at_least in
    elim (cases_eq t s) [
      | inl same ↦ (
          let test : eqb t s ≡ true = grind (arith, nat_tests) in
          let here : s - 1 ≡ t - 1 = omega arith in
          let lt : t - 1 < length ws = omega (arith, known.at_least, known.at_most) in
          let read : slice_index_or (slice_set ws (t - 1) sum) (s - 1) (pos 0) ≡ sum = ap (λ (i : ℕ). slice_index_or (slice_set ws (t - 1) sum) i (pos 0)) here ∙ get_or-set_same ws (t - 1) sum (pos 0) lt in
          let old : nth ws s (pos 0) ≡ slice_index_or ws (t - 1) (pos 0) = before ∙ ap (λ (i : ℕ). slice_index_or ws i (pos 0)) here in
          rw test (omega (arith, ints, at, read, e, old)))
      | inr other ↦ (
          let test : eqb t s ≡ false = grind (arith, nat_tests) in
          let ne : s - 1 ≢ t - 1 = omega (arith, known.at_least, is.at_least) in
          let read : slice_index_or (slice_set ws (t - 1) sum) (s - 1) (pos 0) ≡ slice_index_or ws (s - 1) (pos 0) = get_or-set_other ws (t - 1) (s - 1) sum (pos 0) ne in
          rw test (omega (arith, ints, at, read, before)))
    ]
