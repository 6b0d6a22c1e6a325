-- The parts of a table, as its lines.
use Rattle.std.proofs.Common.{◌≡◌, ◌∙◌, ℕ, ◌≤◌, ◌<◌, true, false, cond, List, [], ◌∷◌, ◌++◌, length, map, flat_map, append_assoc, ℤ, refl, sym, ap, ap₂, codes, arith, slice_index_or}
use Rattle.std.specs.List.{All}
use Rattle.std.proofs.lemmas.Grind.{flat_map-append}
use Rattle.std.proofs.lemmas.List.Folds.{flat_map-map}
use Rattle.std.proofs.lemmas.List.Elements.{All-head, All-tail}
use Rattle.sg_model.specs.declared.ticket.Ticket.{Ticket}
use Rattle.sg_model.specs.Games.{Game}
use Rattle.sg_model.specs.Commitments.{cover_count, weight_total}
use Rattle.sg_model.specs.TextLines.{field_line}
use Rattle.sg_model.specs.Sums.{numbers}
use Rattle.sg_model.proofs.Numbers.{All-numbers}
use Rattle.std.specs.Fmt.{signed_decimal}
use Rattle.sg_frac.specs.Fractions.{Fraction, fraction_text}
use Rattle.sg_game.specs.declared.cell.Cell.{Cell}
use Rattle.sg_game.specs.Tallies.{no_cell}
use Rattle.sg_report.specs.Lines.{head_text, target_text}
use Rattle.sg_report.specs.Tables.{goal_line, table_text, target_line, type_line}

flat_map-same : (f h : ℕ → List ℕ) (xs : List ℕ) → All (λ n. f n ≡ h n) xs → flat_map f xs ≡ flat_map h xs
flat_map-same f h [] same = refl
flat_map-same f h (x ∷ xs) same = ap₂ (λ (a b : List ℕ). a ++ b) (All-head (λ n. f n ≡ h n) x xs same) (flat_map-same f h xs (All-tail (λ n. f n ≡ h n) x xs same))

-- the lines show what is counted
pub target_lines : (g : Game) (k : List Ticket) (cells : List Cell) → length g.goals < length cells → ((t : ℕ) → t < length cells → (slice_index_or cells t no_cell).count ≡ cover_count g k t)
    → flat_map (λ n. target_text g n (slice_index_or cells n no_cell).count) (numbers (length g.goals)) ≡ flat_map (target_line g k) (numbers (length g.goals))
target_lines g k cells room counts =
    flat_map-same (λ n. target_text g n (slice_index_or cells n no_cell).count) (target_line g k) (numbers (length g.goals))
    (All-numbers (λ n. target_text g n (slice_index_or cells n no_cell).count ≡ target_line g k n) (length g.goals)
    (λ n low high. ap (λ (z : ℤ). target_text g n z) (counts n (omega (arith, room, high)))))

module _ (g : Game) (k : List Ticket) where
  lines_text : flat_map (λ (text : List ℕ). text) (map (goal_line g k) (numbers (length g.goals)) ++ map (type_line g k) (numbers (length g.types)))
      ≡ flat_map (goal_line g k) (numbers (length g.goals)) ++ flat_map (type_line g k) (numbers (length g.types))
  lines_text =
      flat_map-append (λ (text : List ℕ). text) (map (goal_line g k) (numbers (length g.goals))) (map (type_line g k) (numbers (length g.types)))
      ∙ ap₂ (λ (a b : List ℕ). a ++ b) (flat_map-map (λ (text : List ℕ). text) (goal_line g k) (numbers (length g.goals))) (flat_map-map (λ (text : List ℕ). text) (type_line g k) (numbers (length g.types)))

  -- what is written in three parts is the table
  pub tabled : (value upper : Fraction) (all : ℤ) (t₀ t₁ t₂ t₃ : List ℕ) → all ≡ weight_total k → t₀ ≡ [] → t₁ ≡ t₀ ++ head_text value upper all
      → t₂ ≡ t₁ ++ flat_map (goal_line g k) (numbers (length g.goals)) → t₃ ≡ t₂ ++ flat_map (type_line g k) (numbers (length g.types))
      → t₃ ≡ table_text g k value upper
  tabled value upper all t₀ t₁ t₂ t₃ sum empty head goals types =
      let a : List ℕ = field_line (codes "value") (fraction_text value ∷ []) in
      let b : List ℕ = field_line (codes "upper") (fraction_text upper ∷ []) in
      let c : List ℕ = field_line (codes "tickets") (signed_decimal (weight_total k) ∷ []) in
      let d : List ℕ = flat_map (goal_line g k) (numbers (length g.goals)) in
      let e : List ℕ = flat_map (type_line g k) (numbers (length g.types)) in
      let first : t₁ ≡ a ++ (b ++ c) = head ∙ ap₂ (λ (t : List ℕ) (z : ℤ). t ++ head_text value upper z) empty sum in
      let second : t₂ ≡ (a ++ (b ++ c)) ++ d = goals ∙ ap (λ (t : List ℕ). t ++ d) first in
      let third : t₃ ≡ ((a ++ (b ++ c)) ++ d) ++ e = types ∙ ap (λ (t : List ℕ). t ++ e) second in
      third ∙ append_assoc (a ++ (b ++ c)) d e ∙ append_assoc a (b ++ c) (d ++ e) ∙ ap (λ (t : List ℕ). a ++ t) (append_assoc b c (d ++ e))
      ∙ ap (λ (t : List ℕ). a ++ (b ++ (c ++ t))) (sym lines_text)
