-- What pricing answers, column by column.
use Rattle.std.proofs.Common.{◌≡◌, ◌∙◌, ℕ, ◌+◌, ◌<◌, ◌≤◌, Bool, true, false, List, [], ◌∷◌, drop, length, sym, ap, subst, arith, get_or, slice_index_or, Ok, Err}
use Rattle.std.specs.Prelude.{ℤ, pos, ◌*ℤ◌, int_lt}
use Rattle.std.specs.List.{All}
use Rattle.std.proofs.lemmas.List.{get_or-map, get_or_default, length-map}
use Rattle.sg_num.specs.declared.step.Wide.{Wide}
use Rattle.sg_num.specs.Operations.{first_wide, formed, times}
use Rattle.sg_rows.proofs.Fitting.{Err-stops, Ok-fits, Ok-value}
use Rattle.sg_rows.specs.Rows.{place}
use Rattle.sg_model.specs.Sums.{numbers}
use Rattle.sg_model.specs.Games.{Game}
use Rattle.sg_model.specs.Limits.{IsGame}
use Rattle.sg_model.proofs.Numbers.{length-numbers_from, nth-numbers_from}
use Rattle.sg_tree.specs.declared.fix.Fix.{Fix}
use Rattle.sg_bounds.specs.Coverage as table
use Rattle.sg_lp.specs.declared.column.Column.{Column}
use Rattle.sg_lp.specs.Listing.{enters, listing_answer, price_steps}
use Rattle.sg_lp.specs.Pricing.{Answer, clean, found, spent, wide}
use Rattle.sg_lp.proofs.InTurn as turn
use Rattle.sg_programs.specs.CoverPrograms.{column_numbered, cover_program}
use Rattle.sg_programs.specs.Nodes.{NodeOf}
use Rattle.sg_programs.proofs.CoverFacts.{columns-few}
use Rattle.sg_eraser.specs.declared.sparse.RowEntry.{RowEntry}
use Rattle.sg_eraser.specs.declared.table.CoverRow.{CoverRow}
use Rattle.sg_eraser.specs.declared.table.CoverColumn.{CoverColumn}
use Rattle.sg_eraser.specs.Covers.{IsCoverTable}
use Rattle.sg_eraser.specs.Nonzero.{nonzero_steps, nonzero_sum}
use Rattle.sg_eraser.proofs.Tabled.{columns-long, costs-count, entries-count, rows-inside, steps-are, steps_at, test-is, test_at}

-- what a family answers from its k-th column on
abbrev pub answer_from : NodeOf → List ℤ → ℤ → ℕ → ℕ → Answer
answer_from v y rho budget k = listing_answer (cover_program v.game v.fix) y rho budget k (drop k (cover_program v.game v.fix).columns)

-- the column at a place
numbered-here : (g : Game) (fix : Fix) (k : ℕ) (d : Column) → k < length (cover_program g fix).columns → slice_index_or (cover_program g fix).columns k d ≡ column_numbered (k + 1)
numbered-here g fix k d lt =
    let n : ℕ = length (table.columns g) in
    let inside : k < n = omega (arith, lt, length-map (numbers n) column_numbered, length-numbers_from 1 n) in
    let e : 1 + k ≡ k + 1 = omega arith in
    get_or-map column_numbered (numbers n) k 0 d (omega (arith, inside, length-numbers_from 1 n)) ∙ ap column_numbered (nth-numbers_from 1 n k 0 inside ∙ e)

-- an item of a list, whatever stands past its end
pub any-item : {X : Type 0} (xs : List (List X)) (k : ℕ) (x : List X) → k < length xs → x ≡ get_or xs k x → x ≡ get_or xs k []
any-item xs k x lt e = e ∙ get_or_default xs k x [] lt

-- what holds at a number as it is passed
pub at-rho : (v : NodeOf) (y : List ℤ) (rho passed : ℤ) (budget : ℕ) (a : Answer) → passed ≡ rho → answer_from v y passed budget 0 ≡ a → answer_from v y rho budget 0 ≡ a
at-rho v y rho passed budget a e h = subst (λ (r : ℤ). answer_from v y r budget 0 ≡ a) e h

-- where no column is looked for
no_column : Column
no_column = record { len = 0; code = [] }

module _ (v inner : NodeOf) (rows : List CoverRow) (columns : List CoverColumn) (costs cs : List ℤ) (entries es : List (List RowEntry)) (e : inner ≡ v) (is : IsCoverTable inner.game inner.fix rows columns costs entries)
    (ec : cs ≡ costs) (ee : es ≡ entries) (y : List ℤ) (long : length y ≡ (cover_program v.game v.fix).height) where
  kept : IsCoverTable v.game v.fix rows columns costs entries
  kept = subst (λ (z : NodeOf). IsCoverTable z.game z.fix rows columns costs entries) e is

  pub as-long : length (cover_program v.game v.fix).columns ≡ length cs
  as-long = columns-long v.game v.fix rows columns costs entries kept ∙ sym (ap length ec)

  pub lengths : length cs ≡ length es
  lengths = ap length ec ∙ costs-count v.game v.fix rows columns costs entries kept ∙ sym (entries-count v.game v.fix rows columns costs entries kept) ∙ sym (ap length ee)

  -- the entries at a place name rows
  pub rows-named : (k : ℕ) → k < length cs → (xs : List RowEntry) → xs ≡ get_or es k [] → All (λ (x : RowEntry). x.row < length y) xs
  rows-named k lt xs at =
      subst (All (λ (x : RowEntry). x.row < length y)) (sym (at ∙ ap (λ (zs : List (List RowEntry)). get_or zs k []) ee))
      (rows-inside v.game v.fix rows columns costs entries kept y long (pos 0) k no_column (subst (λ (zs : List ℤ). k < length zs) ec lt))

  module _ (rho : ℤ) (budget k : ℕ) (lt : k < length cs) where
    inside : k < length costs
    inside = subst (λ (zs : List ℤ). k < length zs) ec lt

    listed : k < length (cover_program v.game v.fix).columns
    listed = omega (arith, as-long, lt)

    -- the test of the column as it is read
    abbrev read_steps : ℤ → List RowEntry → List Wide
    read_steps cost xs = times rho cost ∷ nonzero_steps y (pos 0) xs

    abbrev read_test : ℤ → List RowEntry → Bool
    read_test cost xs = int_lt (nonzero_sum y (pos 0) xs) (rho *ℤ cost)

    pub spent-here : budget ≤ k → answer_from v y rho budget 0 ≡ answer_from v y rho budget k → answer_from v y rho budget 0 ≡ spent
    spent-here h so-far = so-far ∙ turn.spent_at (cover_program v.game v.fix) y rho budget k no_column listed h

    module _ (cost : ℤ) (xs : List RowEntry) (cost-at : cost ≡ place cs k) (at : xs ≡ get_or es k []) (so-far : answer_from v y rho budget 0 ≡ answer_from v y rho budget k) (left : k < budget) where
      cost-is : cost ≡ place costs k
      cost-is = cost-at ∙ ap (λ (zs : List ℤ). place zs k) ec

      entries-are : xs ≡ get_or entries k []
      entries-are = at ∙ ap (λ (zs : List (List RowEntry)). get_or zs k []) ee

      same-steps : first_wide (steps_at v.game v.fix rows columns costs entries kept y long rho k no_column inside) ≡ first_wide (read_steps cost xs)
      same-steps = sym (ap (λ (z : ℤ). first_wide (read_steps z xs)) cost-is ∙ ap (λ (zs : List RowEntry). first_wide (read_steps (place costs k) zs)) entries-are)

      same-test : test_at v.game v.fix rows columns costs entries kept y long rho k no_column inside ≡ read_test cost xs
      same-test = sym (ap (λ (z : ℤ). read_test z xs) cost-is ∙ ap (λ (zs : List RowEntry). read_test (place costs k) zs) entries-are)

      told-steps : first_wide (read_steps cost xs) ≡ first_wide (price_steps (cover_program v.game v.fix) y rho (slice_index_or (cover_program v.game v.fix).columns k no_column))
      told-steps = sym same-steps ∙ steps-are v.game v.fix rows columns costs entries kept y long rho k no_column inside

      told-test : read_test cost xs ≡ enters (cover_program v.game v.fix) y rho (slice_index_or (cover_program v.game v.fix).columns k no_column)
      told-test = sym same-test ∙ test-is v.game v.fix rows columns costs entries kept y long rho k no_column inside

      pub enters-here : (b : Bool) → Ok b ≡ formed (read_steps cost xs) (read_test cost xs) → b ≡ true → answer_from v y rho budget 0 ≡ found (column_numbered (k + 1))
      enters-here b h yes_b =
          so-far
          ∙ turn.enters_at (cover_program v.game v.fix) y rho budget k no_column listed (read_steps cost xs) (read_test cost xs) told-steps told-test left
          (Ok-fits (read_steps cost xs) (read_test cost xs) b h) (sym (Ok-value (read_steps cost xs) (read_test cost xs) b h) ∙ yes_b)
          ∙ ap found (numbered-here v.game v.fix k no_column listed)

      pub stays-here : (b : Bool) → Ok b ≡ formed (read_steps cost xs) (read_test cost xs) → b ≡ false → answer_from v y rho budget 0 ≡ answer_from v y rho budget (k + 1)
      stays-here b h no_b =
          so-far
          ∙ turn.stays_at (cover_program v.game v.fix) y rho budget k no_column listed (read_steps cost xs) (read_test cost xs) told-steps told-test left
          (Ok-fits (read_steps cost xs) (read_test cost xs) b h) (sym (Ok-value (read_steps cost xs) (read_test cost xs) b h) ∙ no_b)

      pub fails-here : (w : Wide) → Err w ≡ formed (read_steps cost xs) (read_test cost xs) → answer_from v y rho budget 0 ≡ wide 2 w
      fails-here w h =
          so-far
          ∙ turn.fails_at (cover_program v.game v.fix) y rho budget k no_column listed (read_steps cost xs) (read_test cost xs) told-steps told-test w left (Err-stops (read_steps cost xs) (read_test cost xs) w h)

  pub clean-here : (rho : ℤ) (budget k : ℕ) → length cs ≤ k → k ≤ length cs → answer_from v y rho budget 0 ≡ answer_from v y rho budget k → answer_from v y rho budget 0 ≡ clean (length cs)
  clean-here rho budget k le ge so-far = so-far ∙ turn.clean_at (cover_program v.game v.fix) y rho budget (length cs) k (sym as-long) le ge ∙ ap clean as-long

  -- the number of a column fits
  pub number-fits : IsGame inner.game → (k : ℕ) → k < length cs → k + 1 ≤ 16201
  number-fits game k lt =
      omega (
        arith,
        lt,
        ap length ec,
        costs-count v.game v.fix rows columns costs entries kept,
        columns-few v.game (subst (λ (z : NodeOf). IsGame z.game) e game) kept.unscaled kept.security,
      )
