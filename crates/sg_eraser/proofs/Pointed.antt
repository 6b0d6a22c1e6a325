-- The parts of a point: the weights that they give the table's columns are the point's amounts, and the counts that are filled of them lie within the point.
use Rattle.std.proofs.Common.{◌≡◌, ◌∙◌, ℕ, ◌<◌, ◌≤◌, cond, true, List, [], ◌∷◌, ◌++◌, length, map, flat_map, ap, subst, sym, refl, arith, slice_index_or, None}
use Rattle.std.specs.Prelude.{ℤ, pos, ◌+ℤ◌, ◌≤ℤ◌, ◌<ℤ◌, FitsSigned}
use Rattle.std.specs.Int.{w128}
use Rattle.std.specs.List.{All}
use Rattle.std.proofs.lemmas.Int.{ints}
use Rattle.std.proofs.lemmas.List.Elements.{All-map}
use Rattle.sg_num.proofs.Steps.{FitsSigned-from_fits}
use Rattle.sg_num.specs.Operations.{first_wide, plus}
use Rattle.sg_model.specs.declared.kind.Kind.TheVariants.{Security}
use Rattle.sg_model.specs.Games.{Game, resource_count, resource_schedules}
use Rattle.sg_model.specs.Limits.{IsGame}
use Rattle.sg_model.specs.Sums.{numbers, total}
use Rattle.sg_model.proofs.Sums.{total-same}
use Rattle.sg_game.specs.Counting.{IsSingle}
use Rattle.sg_commit.specs.Committed.{Committed, IsCommitted}
use Rattle.sg_tree.specs.declared.fix.Fix.{Fix}
use Rattle.sg_bounds.specs.Coverage as table
use Rattle.sg_bounds.specs.Regions.{IsFix}
use Rattle.sg_bounds.specs.SizeSteps.{running_steps}
use Rattle.sg_bounds.proofs.Cover.{total-map}
use Rattle.sg_rows.proofs.Fitting.{back-fits, head-fits, tail-fits}
use Rattle.sg_rows.specs.Rows.{place}
use Rattle.sg_search.specs.Results.{Reaches}
use Rattle.sg_split.specs.Matched.{AreChoiceCounts, IsMatched}
use Rattle.sg_lp.specs.Programs.{IsWithinLimits, Program}
use Rattle.sg_lp.specs.States.{IsTableau, Tableau, member_at}
use Rattle.sg_programs.specs.CoverFilling.{filled_counts, held_amount, resource_amount}
use Rattle.sg_programs.specs.CoverPointLaws.{KeepsTable}
use Rattle.sg_programs.specs.CoverPoints.{AreCountsUnder, IsCoverCommitment, amount_of, cover_whole, is_same_column}
use Rattle.sg_programs.specs.CoverPrograms.{cover_fact, cover_program, table_column}
use Rattle.sg_programs.specs.Nodes.{NodeOf}
use Rattle.sg_programs.specs.Points.{column_in, is_column, is_point_row, multiple_steps, own_steps, point_rows, point_steps, point_weight, point_whole, weight_at, weight_step, weights_of, whole_weight}
use Rattle.sg_programs.proofs.CoverCounts.{counts_are_choice_counts, filled_under, single-secure}
use Rattle.sg_programs.proofs.CoverKeeps.{point_keeps_table}
use Rattle.sg_programs.proofs.CoverReaches.{matched_reaches_fact}
use Rattle.sg_programs.proofs.CoverSized.{cover_is_sized}
use Rattle.sg_programs.proofs.PointSums.{both, column-is, over-rows, weights_are_shares}
use Rattle.sg_dual.specs.declared.part.Part.{Part}
use Rattle.sg_dual.specs.Parts.{part_of_row, point_parts}
use Rattle.sg_eraser.specs.declared.sparse.RowEntry.{RowEntry}
use Rattle.sg_eraser.specs.declared.table.CoverColumn.{CoverColumn}
use Rattle.sg_eraser.specs.declared.table.CoverRow.{CoverRow}
use Rattle.sg_eraser.specs.Amounts.{AreWeighed, IsCoverPoint, IsNumbered, amount_in}
use Rattle.sg_eraser.specs.Covers.{IsCoverTable}
use Rattle.sg_eraser.specs.TableValues.{meant_column}
use Rattle.sg_eraser.proofs.Fillings.{amount_in-low}
use Rattle.sg_eraser.proofs.Tabled.{columns-count, number-in}

-- ---- a running total that fits

running-fits : (z : ℤ) (xs : List ℤ) → FitsSigned w128 z → first_wide (running_steps z xs) ≡ None → FitsSigned w128 (z +ℤ total (λ v. v) xs)
running-fits z [] fit e = let same : z +ℤ pos 0 ≡ z = omega (arith, ints) in subst (FitsSigned w128) (sym same) fit
running-fits z (x ∷ xs) fit e =
    let more : FitsSigned w128 (z +ℤ x) = FitsSigned-from_fits (z +ℤ x) (head-fits (plus z x) (running_steps (z +ℤ x) xs) e) in
    let rest = running-fits (z +ℤ x) xs more (tail-fits (plus z x) (running_steps (z +ℤ x) xs) e) in
    let same : (z +ℤ x) +ℤ total (λ v. v) xs ≡ z +ℤ (x +ℤ total (λ v. v) xs) = omega (arith, ints) in
    subst (FitsSigned w128) same rest

same-total : (p : Program) (t : Tableau) (is : List ℕ) → total (λ (v : ℤ). v) (map (whole_weight (point_whole p t)) (map (weight_at p t) is)) ≡ total (λ (x : Part). x.weight) (map (part_of_row p t) is)
same-total p t [] = refl
same-total p t (i ∷ is) = ap (λ (z : ℤ). point_weight p t i +ℤ z) (same-total p t is)

module _ (g : Game) (h : IsGame g) (unscaled : g.scale ≡ pos 0) (single : IsSingle g) (fix : Fix) (is_fix : IsFix g fix) (t : Tableau) (st : IsTableau (cover_program g fix) t) (parts : List Part) (e : parts ≡ point_parts (cover_program g fix) t) where
  abbrev p : Program
  p = cover_program g fix

  security : g.kind ≡ Security
  security = single-secure g h single

  sized : IsWithinLimits p
  sized = cover_is_sized g h unscaled security fix is_fix

  keeps : KeepsTable g fix t
  keeps = point_keeps_table g h unscaled security fix is_fix t st

  -- the weight of a column
  pub amount-same : (c : table.Column) → amount_in g parts c ≡ amount_of g fix t c
  amount-same c =
      ap (λ (xs : List Part). amount_in g xs c) e
      ∙ total-map (λ (x : Part). cond (is_same_column (table_column g x.col) c) x.weight (pos 0)) (part_of_row p t) (point_rows p t)

  -- the parts are weighed by columns of the table
  above-all : All (λ (x : Part). pos 0 ≤ℤ x.weight) (point_parts p t)
  above-all =
      All-map (λ (x : Part). pos 0 ≤ℤ x.weight) (part_of_row p t) (point_rows p t)
      (λ k d lt. let w = (weights_are_shares p t sized st).above k d lt in omega (arith, ints, w))

  numbered-all : (count : ℕ) → length (table.columns g) ≡ count → All (IsNumbered count) (point_parts p t)
  numbered-all count long =
      let one : (i : ℕ) → i < p.height → is_point_row t i ≡ true → IsNumbered count (part_of_row p t i) =
      (λ i lt test.
      let at = number-in g fix (column_in (member_at t i)) (column-is p t st i lt (both (is_column (member_at t i)) _ test).0).0 in
      record { from_one = at.0; in_table = omega (arith, at.1, long) }) in
      let rows : All (λ (i : ℕ). IsNumbered count (part_of_row p t i)) (point_rows p t) = over-rows (λ i. IsNumbered count (part_of_row p t i)) t p.height one in
      All-map (IsNumbered count) (part_of_row p t) (point_rows p t) rows

  pub weighed : first_wide (point_steps p t) ≡ None → (columns : List CoverColumn) → map meant_column columns ≡ table.columns g → AreWeighed (length columns) parts
  weighed fit columns is =
      let lasts = running_steps (pos 0) (map (whole_weight (point_whole p t)) (weights_of p t)) in
      let weights = map (weight_step (point_whole p t)) (weights_of p t) in
      let totals = back-fits weights lasts (back-fits (multiple_steps 1 (weights_of p t)) (weights ++ lasts) (back-fits (flat_map (own_steps p t) (point_rows p t)) (multiple_steps 1 (weights_of p t) ++ (weights ++ lasts)) fit)) in
      let zero : FitsSigned w128 (pos 0) = omega (arith, ints) in
      let room = running-fits (pos 0) (map (whole_weight (point_whole p t)) (weights_of p t)) zero totals in
      let same : pos 0 +ℤ total (λ (v : ℤ). v) (map (whole_weight (point_whole p t)) (weights_of p t)) ≡ total (λ (x : Part). x.weight) (point_parts p t) =
      (let q = same-total p t (point_rows p t) in omega (arith, ints, q)) in
      subst (AreWeighed (length columns)) (sym e) (record { numbered = numbered-all (length columns) (sym (columns-count g columns is)); low = above-all; room = subst (FitsSigned w128) same room })

  low : (c : table.Column) → pos 0 ≤ℤ amount_in g parts c
  low = amount_in-low g parts (subst (All (λ (x : Part). pos 0 ≤ℤ x.weight)) (sym e) above-all)

  -- the choices of a target have enough for it
  enough : (u : ℕ) → 1 ≤ u → u ≤ length g.goals → amount_in g parts (table.covering u) ≤ℤ total (resource_amount g (amount_in g parts) u) (numbers (resource_count g))
  enough u from_one in_range =
      let held = keeps.held u from_one in_range in
      let same-held : (r j : ℕ) → held_amount g (amount_in g parts) u r j ≡ held_amount g (amount_of g fix t) u r j = λ r j. ap (λ (z : ℤ). cond (table.choice_holds g r j u) z (pos 0)) (amount-same (table.chooses r j)) in
      let same-resource : (r : ℕ) → resource_amount g (amount_in g parts) u r ≡ resource_amount g (amount_of g fix t) u r =
      λ r. total-same (held_amount g (amount_in g parts) u r) (held_amount g (amount_of g fix t) u r) (numbers (length (resource_schedules g r))) (λ k d lt. same-held r (slice_index_or (numbers (length (resource_schedules g r))) k d)) in
      let all = total-same (resource_amount g (amount_in g parts) u) (resource_amount g (amount_of g fix t) u) (numbers (resource_count g)) (λ k d lt. same-resource (slice_index_or (numbers (resource_count g)) k d)) in
      omega (arith, ints, held, all, amount-same (table.covering u))

  abbrev counts : List (List ℤ)
  counts = filled_counts g (amount_in g parts)

  pub under : AreCountsUnder g (amount_of g fix t) counts
  under =
      let are = filled_under g h single (amount_in g parts) low enough in
      record {
        one_each = are.one_each;
        each_choice = are.each_choice;
        none_below = are.none_below;
        none_above = λ r j from_one in_range some in_list. let le = are.none_above r j from_one in_range some in_list in omega (arith, ints, le, amount-same (table.chooses r j));
        asked_is = λ u from_one in_range. are.asked_is u from_one in_range ∙ amount-same (table.covering u);
      }

  module _ (above : pos 0 <ℤ place t.y 0) where
    whole-is : amount_in g parts table.always ≡ cover_whole g fix t
    whole-is = amount-same table.always ∙ keeps.filled above

    pub had : AreChoiceCounts g counts (amount_in g parts table.always)
    had = subst (AreChoiceCounts g counts) (sym whole-is) (counts_are_choice_counts g h unscaled single fix is_fix t st above counts under)

    module _ (k : Committed) (is_k : IsCommitted k) (matched : IsMatched g counts (amount_in g parts table.always) k) where
      is-matched : IsMatched g counts (cover_whole g fix t) k
      is-matched = subst (λ (z : ℤ). IsMatched g counts z k) whole-is matched

      pub commits : IsCoverCommitment g fix t k
      commits = (is_k, (counts, (under, is-matched)))

      pub reaches : Reaches g fix (cover_fact t.y t.rho) k.tickets
      reaches = matched_reaches_fact g h unscaled single fix is_fix t st above counts under k is_k is-matched

-- ---- by the view of a family

-- what holds of a family's parts, as they are with the family's own game and columns
module _ (v inner : NodeOf) (rows : List CoverRow) (columns cs : List CoverColumn) (costs : List ℤ) (entries : List (List RowEntry)) (same : inner ≡ v) (is : IsCoverTable inner.game inner.fix rows columns costs entries) (ec : cs ≡ columns) (h : IsGame inner.game)
    (single : IsSingle v.game) (parts : List Part) (point : IsCoverPoint v.game v.fix parts) where
  own : IsCoverPoint inner.game inner.fix parts
  own = subst (λ (z : NodeOf). IsCoverPoint z.game z.fix parts) (sym same) point

  own-single : IsSingle inner.game
  own-single = subst (λ (z : NodeOf). IsSingle z.game) (sym same) single

  pub weighed-by : AreWeighed (length cs) parts
  weighed-by = weighed inner.game h is.unscaled own-single inner.fix is.is_fix own.state own.is_state parts own.parts_are own.formed cs (ap (map meant_column) ec ∙ is.columns_are)

  pub had-by : AreChoiceCounts inner.game (filled_counts inner.game (amount_in inner.game parts)) (amount_in inner.game parts table.always)
  had-by = had inner.game h is.unscaled own-single inner.fix is.is_fix own.state own.is_state parts own.parts_are own.above

  module _ (k : Committed) (is_k : IsCommitted k) (matched : IsMatched inner.game (filled_counts inner.game (amount_in inner.game parts)) (amount_in inner.game parts table.always) k)
      (t : Tableau) (st : IsTableau (cover_program v.game v.fix) t) (above : pos 0 <ℤ place t.y 0) (e : parts ≡ point_parts (cover_program v.game v.fix) t) where
    own-state : IsTableau (cover_program inner.game inner.fix) t
    own-state = subst (λ (z : NodeOf). IsTableau (cover_program z.game z.fix) t) (sym same) st

    own-parts : parts ≡ point_parts (cover_program inner.game inner.fix) t
    own-parts = subst (λ (z : NodeOf). parts ≡ point_parts (cover_program z.game z.fix) t) (sym same) e

    pub commits-by : IsCoverCommitment v.game v.fix t k
    commits-by = subst (λ (z : NodeOf). IsCoverCommitment z.game z.fix t k) same (commits inner.game h is.unscaled own-single inner.fix is.is_fix t own-state parts own-parts above k is_k matched)

    pub reaches-by : Reaches v.game v.fix (cover_fact t.y t.rho) k.tickets
    reaches-by = subst (λ (z : NodeOf). Reaches z.game z.fix (cover_fact t.y t.rho) k.tickets) same (reaches inner.game h is.unscaled own-single inner.fix is.is_fix t own-state parts own-parts above k is_k matched)
