-- A part taken off row by row.
use Rattle.std.proofs.Common.{◌≡◌, ℕ, ◌+◌, ◌<◌, ◌≤◌, List, [], length, eqb, get_or, set, inl, inr, refl, arith, ap, sym, ◌∙◌, subst, get_or-set_same, get_or-set_other}
use Rattle.std.specs.Prelude.{ℤ, pos, ◌-ℤ◌}
use Rattle.std.proofs.Math.ListN.{length-set}
use Rattle.std.proofs.lemmas.Int.{ints}
use Rattle.std.proofs.lemmas.Bool.{cases_eq, cond-true, cond-false, eq-eqb, ne_eqb}
use Rattle.sg_matchings.specs.declared.part.Part.{Part}
use Rattle.sg_matchings.specs.Tables.{cell, IsSquare}
use Rattle.sg_matchings.specs.Decompositions.{cell_weight}
use Rattle.sg_matchings.specs.Mirrors.{IsLess}

abbrev pub row_at : List (List ℤ) → ℕ → List ℤ
row_at rows i = get_or rows i []

-- a row less a weight in one column
abbrev pub lowered : List ℤ → ℕ → ℤ → List ℤ
lowered row column weight = set row column (get_or row column (pos 0) -ℤ weight)

-- the rows before one are lowered, and the others not yet
pub record AreLowered (rows : List (List ℤ)) (part : Part) (rows' : List (List ℤ)) (k : ℕ) : Type 0 where
  pub long : length rows' ≡ length rows
  pub before : (i : ℕ) → i < k → row_at rows' i ≡ lowered (row_at rows i) (get_or part.columns i 0) part.weight
  pub behind : (i : ℕ) → k ≤ i → row_at rows' i ≡ row_at rows i

pub lowered-start : (rows : List (List ℤ)) (part : Part) → AreLowered rows part rows 0
lowered-start rows part = record { long = refl; before = λ i lt. absurd (omega (arith, lt)); behind = λ i le. refl }

pub lowered-more : (rows : List (List ℤ)) (part : Part) (rows' rows'' : List (List ℤ)) (k : ℕ) (row : List ℤ) → k < length rows → AreLowered rows part rows' k
    → row ≡ lowered (row_at rows' k) (get_or part.columns k 0) part.weight → rows'' ≡ set rows' k row → AreLowered rows part rows'' (k + 1)
lowered-more rows part rows' rows'' k row lt are e f = rw f (record {
  long = length-set rows' k row ∙ are.long;
  before = λ i l. elim (cases_eq i k) [
    | inl q ↦ (let inside : k < length rows' = omega (arith, lt, are.long) in
        rw q (get_or-set_same rows' k row [] inside ∙ (e ∙ ap (λ (x : List ℤ). lowered x (get_or part.columns k 0) part.weight) (are.behind k (omega arith)))))
    | inr ne ↦ get_or-set_other rows' k i row [] ne ∙ are.before i (omega (arith, l, ne))
  ];
  behind = λ i le. get_or-set_other rows' k i row [] (λ q. absurd (omega (arith, q, le))) ∙ are.behind i (omega (arith, le));
})

pub lowered-end : (rows : List (List ℤ)) (part : Part) (rows' : List (List ℤ)) (k : ℕ) → k ≡ length rows → IsSquare rows → ((i : ℕ) → i < length rows → get_or part.columns i 0 < length rows)
    → AreLowered rows part rows' k → IsLess rows part rows'
lowered-end rows part rows' k end square within are = record {
  long = are.long;
  square = λ i lt.
      let l : i < length rows = omega (arith, lt, are.long) in
      ap (λ (x : List ℤ). length x) (are.before i (omega (arith, l, end))) ∙ (length-set (row_at rows i) (get_or part.columns i 0) (get_or (row_at rows i) (get_or part.columns i 0) (pos 0) -ℤ part.weight) ∙ (square i l ∙ sym are.long));
  cells = λ i j l lj.
      let c : ℕ = get_or part.columns i 0 in
      let v : ℤ = get_or (row_at rows i) c (pos 0) -ℤ part.weight in
      let here : cell rows' i j ≡ get_or (set (row_at rows i) c v) j (pos 0) = ap (λ (x : List ℤ). get_or x j (pos 0)) (are.before i (omega (arith, l, end))) in
      let inside : c < length (row_at rows i) = omega (arith, within i l, square i l) in
      here ∙ elim (cases_eq c j) [
        | inl q ↦ (
            let off : cell_weight i j part ≡ part.weight = cond-true (eqb c j) part.weight (pos 0) (eq-eqb c j q) in
            let set_here : get_or (set (row_at rows i) c v) j (pos 0) ≡ v = subst (λ (x : ℕ). get_or (set (row_at rows i) c v) x (pos 0) ≡ v) q (get_or-set_same (row_at rows i) c v (pos 0) inside) in
            let same : get_or (row_at rows i) c (pos 0) ≡ cell rows i j = ap (λ (x : ℕ). get_or (row_at rows i) x (pos 0)) q in
            omega (arith, ints, off, set_here, same))
        | inr ne ↦ (
            let off : cell_weight i j part ≡ pos 0 = cond-false (eqb c j) part.weight (pos 0) (ne_eqb c j ne) in
            let set_there : get_or (set (row_at rows i) c v) j (pos 0) ≡ cell rows i j = get_or-set_other (row_at rows i) c j v (pos 0) (λ q. ne (sym q)) in
            omega (arith, ints, off, set_there))
      ];
}
