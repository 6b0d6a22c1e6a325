-- Lines written one after another.
use Rattle.std.proofs.Common.{◌≡◌, ◌∙◌, ℕ, ◌+◌, ◌-◌, ◌<◌, List, ◌++◌, length, flat_map, append_assoc, sym, ap, arith, slice_index_or}
use Rattle.sg_model.specs.Sums.{numbers_from}
use Rattle.sg_model.proofs.Numbers.{nth-is}
use Rattle.sg_game.specs.declared.cell.Cell.{Cell}
use Rattle.sg_game.specs.Tallies.{no_cell}
use Rattle.sg_commit.proofs.Responses.{numbers_next}

-- what is written and what is left to write, one number on
pub next_line : (f : ℕ → List ℕ) (i n : ℕ) (text after line whole : List ℕ) → i < n → line ≡ f (i + 1) → after ≡ text ++ line → text ++ flat_map f (numbers_from (i + 1) (n - i)) ≡ whole
    → after ++ flat_map f (numbers_from (i + 1 + 1) (n - (i + 1))) ≡ whole
next_line f i n text after line whole lt here written e =
    let rest : List ℕ = flat_map f (numbers_from (i + 1 + 1) (n - (i + 1))) in
    let split : flat_map f (numbers_from (i + 1) (n - i)) ≡ f (i + 1) ++ rest = ap (flat_map f) (numbers_next i n lt) in
    ap (λ (t : List ℕ). t ++ rest) (written ∙ ap (λ (t : List ℕ). text ++ t) here) ∙ append_assoc text (f (i + 1)) rest ∙ ap (λ (t : List ℕ). text ++ t) (sym split) ∙ e

-- a cell, whatever stands where there is none
pub cell_same : (cells : List Cell) (i : ℕ) (d : Cell) → i < length cells → slice_index_or cells i d ≡ slice_index_or cells i no_cell
cell_same cells i d lt =
    let e : i + 1 - 1 ≡ i = omega arith in
    ap (λ (j : ℕ). slice_index_or cells j d) (sym e) ∙ sym (nth-is cells (i + 1) no_cell d (omega arith) (omega (arith, lt)))
    ∙ nth-is cells (i + 1) no_cell no_cell (omega arith) (omega (arith, lt)) ∙ ap (λ (j : ℕ). slice_index_or cells j no_cell) e
