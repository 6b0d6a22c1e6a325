-- The least number on the first rows of a matching.
use Rattle.std.proofs.Common.{◌≡◌, ◌⊎◌, ℕ, ◌+◌, ◌<◌, List, length, get_or, inl, inr, arith, sym, ◌∙◌}
use Rattle.std.specs.Prelude.{ℤ, ◌≤ℤ◌}
use Rattle.std.proofs.lemmas.Int.{ints}
use Rattle.std.proofs.lemmas.Bool.{cases_eq}
use Rattle.sg_matchings.specs.Tables.{cell}
use Rattle.sg_matchings.specs.Mirrors.{IsLeastWeight}

pub record IsLeastBelow (rows : List (List ℤ)) (columns : List ℕ) (least : ℤ) (k : ℕ) : Type 0 where
  pub bound : (i : ℕ) → i < k → least ≤ℤ cell rows i (get_or columns i 0)
  pub reached : (i : ℕ) × ((i < length rows) × (cell rows i (get_or columns i 0) ≡ least))

pub least-first : (rows : List (List ℤ)) (columns : List ℕ) (least : ℤ) → 0 < length rows → least ≡ cell rows 0 (get_or columns 0 0) → IsLeastBelow rows columns least 1
least-first rows columns least lt e = record {
  bound = λ i l. elim (cases_eq i 0) [ inl q ↦ rw q (omega (arith, ints, e)) | inr ne ↦ absurd (omega (arith, l, ne)) ];
  reached = (0, (lt, sym e));
}

pub least-more : (rows : List (List ℤ)) (columns : List ℕ) (least value next : ℤ) (k : ℕ) → k < length rows → value ≡ cell rows k (get_or columns k 0) → IsLeastBelow rows columns least k
    → next ≤ℤ least → next ≤ℤ value → (next ≡ least) ⊎ (next ≡ value) → IsLeastBelow rows columns next (k + 1)
least-more rows columns least value next k lt e before first second one = record {
  bound = λ i l. elim (cases_eq i k) [
    | inl q ↦ rw q (omega (arith, ints, e, second))
    | inr ne ↦ omega (arith, ints, before.bound i (omega (arith, l, ne)), first)
  ];
  reached = elim one [
    | inl q ↦ (before.reached.0, (before.reached.1.0, before.reached.1.1 ∙ sym q))
    | inr q ↦ (k, (lt, sym e ∙ sym q))
  ];
}

pub least-all : (rows : List (List ℤ)) (columns : List ℕ) (least : ℤ) (k : ℕ) → k ≡ length rows → IsLeastBelow rows columns least k → IsLeastWeight rows columns least
least-all rows columns least k e below = record { bound = λ i lt. below.bound i (omega (arith, lt, e)); reached = below.reached }
