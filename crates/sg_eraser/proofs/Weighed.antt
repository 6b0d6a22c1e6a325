-- The weights that parts give the columns of the table, added part by part.
use Rattle.std.proofs.Common.{◌≡◌, ◌∙◌, ℕ, zero, suc, ◌+◌, ◌-◌, ◌<◌, ◌≤◌, true, false, cond, List, [], ◌∷◌, length, map, take, sym, ap, arith, slice_index_or}
use Rattle.std.specs.Prelude.{ℤ, pos, ◌+ℤ◌, ◌≤ℤ◌}
use Rattle.std.specs.List.{All}
use Rattle.std.proofs.lemmas.Int.{ints}
use Rattle.std.proofs.lemmas.List.{get_or-map, take_more}
use Rattle.std.proofs.lemmas.List.Elements.{All-head, All-tail}
use Rattle.std.proofs.Math.Seq.{take-length}
use Rattle.sg_model.specs.Games.{Game}
use Rattle.sg_model.specs.Sums.{nth, total}
use Rattle.sg_model.proofs.Sums.{total-append, total-same}
use Rattle.sg_bounds.specs.Coverage as table
use Rattle.sg_programs.specs.CoverPoints.{is_same_column}
use Rattle.sg_programs.specs.CoverPrograms.{number_in_table, table_column}
use Rattle.sg_dual.specs.declared.part.Part.{Part}
use Rattle.sg_eraser.specs.declared.table.CoverColumn.{CoverColumn}
use Rattle.sg_eraser.specs.declared.table.CoverColumn.TheVariants as column
use Rattle.sg_eraser.specs.Amounts.{AreWeighed, IsNumbered, amount_in, weight_for}
use Rattle.sg_eraser.specs.TableValues.{meant_column}

abbrev weight : Part → ℤ
weight x = x.weight

module _ (columns : List CoverColumn) (want : CoverColumn) where
  abbrev h : Part → ℤ
  h = weight_for columns want

  picked : (x : Part) → pos 0 ≤ℤ x.weight → (pos 0 ≤ℤ h x) × (h x ≤ℤ x.weight)
  picked x low =
      elim (is_same_column (meant_column (slice_index_or columns (number_in_table x.col - 1) column.Always)) (meant_column want)) as (λ b. (pos 0 ≤ℤ cond b x.weight (pos 0)) × (cond b x.weight (pos 0) ≤ℤ x.weight)) [
        | true ↦ (low, omega (arith, ints))
        | false ↦ (omega (arith, ints), low)
      ]

  -- of the first n parts
  front : (parts : List Part) (n : ℕ) → All (λ (x : Part). pos 0 ≤ℤ x.weight) parts → (pos 0 ≤ℤ total h (take n parts)) × (total h (take n parts) ≤ℤ total weight parts)
  front [] zero low = (omega (arith, ints), omega (arith, ints))
  front [] (suc n) low = (omega (arith, ints), omega (arith, ints))
  front (x ∷ xs) zero low =
      let p = All-head (λ (y : Part). pos 0 ≤ℤ y.weight) x xs low in
      let r = front xs zero (All-tail (λ (y : Part). pos 0 ≤ℤ y.weight) x xs low) in
      let a = r.0 in let b = r.1 in
      (omega (arith, ints), omega (arith, ints, p, a, b))
  front (x ∷ xs) (suc n) low =
      let p = All-head (λ (y : Part). pos 0 ≤ℤ y.weight) x xs low in
      let q = picked x p in
      let r = front xs n (All-tail (λ (y : Part). pos 0 ≤ℤ y.weight) x xs low) in
      let a = r.0 in let b = r.1 in let c = q.0 in let d = q.1 in
      (omega (arith, ints, a, c), omega (arith, ints, b, d))

  -- the sum over the first i parts
  abbrev pub IsAmountTo : List Part → ℕ → ℤ → Type 0
  IsAmountTo parts i sum = sum ≡ total h (take i parts)

  pub amount-more : (parts : List Part) (i : ℕ) (d : Part) (sum v next : ℤ) → i < length parts → IsAmountTo parts i sum → v ≡ h (slice_index_or parts i d) → next ≡ sum +ℤ v → IsAmountTo parts (i + 1) next
  amount-more parts i d sum v next lt before e is =
      let more = ap (total h) (take_more parts i d lt) ∙ total-append h (take i parts) (slice_index_or parts i d ∷ []) in
      omega (arith, ints, before, e, is, more)

  pub amount-fits : (parts : List Part) (i : ℕ) (d : Part) (sum v : ℤ) → AreWeighed (length columns) parts → i < length parts → IsAmountTo parts i sum → v ≡ h (slice_index_or parts i d) → (pos 0 ≤ℤ (sum +ℤ v)) × ((sum +ℤ v) ≤ℤ total weight parts)
  amount-fits parts i d sum v are lt before e =
      let more = ap (total h) (take_more parts i d lt) ∙ total-append h (take i parts) (slice_index_or parts i d ∷ []) in
      let r = front parts (i + 1) are.low in
      let a = r.0 in let b = r.1 in
      (omega (arith, ints, before, e, more, a), omega (arith, ints, before, e, more, b))

  pub amount-low : (parts : List Part) (i : ℕ) (sum : ℤ) → AreWeighed (length columns) parts → IsAmountTo parts i sum → pos 0 ≤ℤ sum
  amount-low parts i sum are before = let a = (front parts i are.low).0 in omega (arith, ints, a, before)

  -- of all parts, as the table's columns have it
  named : (g : Game) → map meant_column columns ≡ table.columns g → (x : Part) → IsNumbered (length columns) x → meant_column (slice_index_or columns (number_in_table x.col - 1) column.Always) ≡ table_column g x.col
  named g is x at =
      let n : ℕ = number_in_table x.col in
      let from_one = at.from_one in let in_table = at.in_table in
      let lt : n - 1 < length columns = omega (arith, from_one, in_table) in
      let back : suc (n - 1) ≡ n = omega (arith, from_one) in
      sym (get_or-map meant_column columns (n - 1) column.Always table.always lt)
      ∙ ap (λ (cs : List table.Column). slice_index_or cs (n - 1) table.always) is
      ∙ ap (λ (k : ℕ). nth (table.columns g) k table.always) back

  pub amount-is : (g : Game) (parts : List Part) (i : ℕ) (sum : ℤ) → AreWeighed (length columns) parts → map meant_column columns ≡ table.columns g → length parts ≤ i → i ≤ length parts → IsAmountTo parts i sum → sum ≡ amount_in g parts (meant_column want)
  amount-is g parts i sum are is le ge before =
      let e : i ≡ length parts = omega (arith, le, ge) in
      before
      ∙ ap (total h) (ap (λ (n : ℕ). take n parts) e ∙ take-length parts)
      ∙ total-same h (λ (x : Part). cond (is_same_column (table_column g x.col) (meant_column want)) x.weight (pos 0)) parts
      (λ k d lt. ap (λ (c : table.Column). cond (is_same_column c (meant_column want)) (slice_index_or parts k d).weight (pos 0)) (named g is (slice_index_or parts k d) (are.numbered k d lt)))
