use Rattle.std.proofs.Common.{◌∙◌, List, ap, length, pos, rules, slice_index_or, subst, sym}
use Rattle.std.specs.Int.{w128}
use Rattle.std.specs.Prelude.{FitsSigned, ℤ}
use Rattle.std.proofs.lemmas.Int.{to_z-of_z}
use Rattle.sg_rows.specs.Rows.{IsLowest, combined_rows, place}
use Rattle.sg_lp.specs.Exchanging.{denominated}
use Rattle.sg_lp.proofs.Exchanged.{pivot_back, rows_combined, y_back}
use Rattle.sg_lp.proofs.exchanging.exchange_lists.Goals as goal

pub returns : goal.returns
returns c =
    let fr : FitsSigned w128 c.args.rho = c.ranges.rho in
    let fg : FitsSigned w128 c.args.gap = c.ranges.gap in
    let fu : FitsSigned w128 c.combine_multipliers.result = search rules in
    let fq : FitsSigned w128 (place c.args.products.now c.args.leaving) = search rules in
    let h = c.args.height in
    let q = c.args.products.now in
    let r = c.args.leaving in
    let rows = c.args.rows.now in
    let back = y_back h rows c.swap_at.new.rows c.combine_others.new.rows c.swap_at-2.new.rows c.args.y.now c.swap_at.new.spare c.swap_at-2.new.spare q r c.requires.within c.swap_at.ensures.listed c.swap_at.ensures.spare c.combine_others.ensures c.swap_at-2.ensures.listed c.swap_at-2.ensures.spare in
    let pivot = pivot_back h rows c.swap_at.new.rows c.combine_others.new.rows c.swap_at-2.new.rows c.args.y.now c.swap_at.new.spare c.swap_at-2.new.spare q r c.requires.within c.swap_at.ensures.listed c.swap_at.ensures.spare c.combine_others.ensures c.swap_at-2.ensures.listed c.swap_at-2.ensures.spare c.index-rows-leaving.result c.index-rows-leaving.is in
    let there = slice_index_or c.swap_at-2.new.rows r c.index-rows-leaving.result in
    let low = simp to_z-of_z at c.combine_multipliers.ensures.lowest in
    simp to_z-of_z (record {
      rows = rows_combined h rows c.swap_at.new.rows c.combine_others.new.rows c.swap_at-2.new.rows c.args.y.now c.swap_at.new.spare c.swap_at-2.new.spare q r c.requires.within c.swap_at.ensures.listed c.swap_at.ensures.spare c.combine_others.ensures c.swap_at-2.ensures.listed c.swap_at-2.ensures.spare;
      y_wide = c.combine_multipliers.ensures.wide ∙ ap length back;
      multipliers = subst (λ (z : List ℤ). IsLowest (combined_rows (place q r) c.args.gap (denominated h c.args.y.now c.args.rho) (denominated h z (pos 0))) (denominated h c.combine_multipliers.new.y c.combine_multipliers.result)) (sym c.index-rows-leaving.is ∙ pivot)
          (subst (λ (z : List ℤ). IsLowest (combined_rows (place q r) c.args.gap (denominated h z c.args.rho) (denominated h there (pos 0))) (denominated h c.combine_multipliers.new.y c.combine_multipliers.result)) back low);
    })
