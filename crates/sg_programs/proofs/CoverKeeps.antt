-- What the amounts of a point over the coverage table keep, row by row.
use Rattle.std.proofs.Common.{◌≡◌, ℕ, suc, ◌≤◌, true, false, cond, length, sym, ◌∙◌, ap, subst, refl, arith}
use Rattle.std.specs.List.{Contains}
use Rattle.std.specs.Prelude.{ℤ, pos, ◌*ℤ◌, ◌≤ℤ◌, ◌<ℤ◌}
use Rattle.std.proofs.lemmas.Int.{ints}
use Rattle.sg_model.specs.declared.kind.Kind.TheVariants.{Security}
use Rattle.sg_model.specs.Sums.{numbers, total}
use Rattle.sg_model.specs.Games.{Game, action_count, resource_count, resource_schedules}
use Rattle.sg_model.specs.Limits.{IsGame}
use Rattle.sg_model.proofs.Forms.{no_matrix}
use Rattle.sg_model.proofs.Sums.{total-nonneg}
use Rattle.sg_tree.specs.declared.fix.Fix.{Fix}
use Rattle.sg_bounds.specs.Coverage as table
use Rattle.sg_bounds.specs.Regions.{IsFix, act_of, fixed}
use Rattle.sg_linear.specs.Sums.{unit}
use Rattle.sg_linear.proofs.Products.{unit-apart}
use Rattle.sg_rows.specs.Rows.{place}
use Rattle.sg_lp.specs.Programs.{IsWithinLimits, Program}
use Rattle.sg_lp.specs.States.{IsTableau, Tableau}
use Rattle.sg_programs.specs.CoverPointLaws.{KeepsTable, PointKeepsTable}
use Rattle.sg_programs.specs.CoverPoints.{amount_of, cover_whole, is_same_column}
use Rattle.sg_programs.specs.CoverPrograms.{cover_program, table_row}
use Rattle.sg_programs.specs.Laws.{IsComparison}
use Rattle.sg_programs.specs.PointLaws.{HasPointValue}
use Rattle.sg_programs.specs.Points.{point_rows, point_weight, point_whole}
use Rattle.sg_programs.proofs.CoverAmounts.{column_at, over-amounts}
use Rattle.sg_programs.proofs.CoverRows.{attack_sum, costs-over, defence_part, gains-listed, gains-over, held-listed, held-over, holding, over, own-target, spends-listed, spends-over, times-zero, whole-over, within-listed, within-over}
use Rattle.sg_programs.proofs.CoverSized.{cover_is_sized}
use Rattle.sg_programs.proofs.PlayPoints.{any-default}
use Rattle.sg_programs.proofs.PointSums.{has_point_value, over-rows, weight-above}

module _ (g : Game) (h : IsGame g) (unscaled : g.scale ≡ pos 0) (security : g.kind ≡ Security) (fix : Fix) (is_fix : IsFix g fix) (t : Tableau) (st : IsTableau (cover_program g fix) t) where
  abbrev p : Program
  p = cover_program g fix

  sized : IsWithinLimits p
  sized = cover_is_sized g h unscaled security fix is_fix

  has : HasPointValue p t
  has = has_point_value p t sized st

  abbrev amount : table.Column → ℤ
  amount c = amount_of g fix t c

  row-low : (row : table.Row) → Contains (table.table_rows g fix) row → over g fix amount row ≤ℤ pos 0
  row-low row at =
      let i : ℕ = at.0 in
      let here : table_row g fix (suc i) ≡ row = any-default (table.table_rows g fix) i table.whole row at.1 ∙ at.2 in
      let inside = at.1 in
      let low : total (λ (k : ℕ). point_weight p t k *ℤ table.entry g fix row (column_at g fix t st k)) (point_rows p t) ≤ℤ (pos (point_whole p t) *ℤ unit 0 (suc i)) =
      subst (λ (r : table.Row). total (λ (k : ℕ). point_weight p t k *ℤ table.entry g fix r (column_at g fix t st k)) (point_rows p t) ≤ℤ (pos (point_whole p t) *ℤ unit 0 (suc i))) here (has.rows (suc i) (omega (arith, inside))) in
      let none : pos (point_whole p t) *ℤ unit 0 (suc i) ≡ pos 0 = ap (λ (z : ℤ). pos (point_whole p t) *ℤ z) (unit-apart 0 (suc i) (λ e. absurd (omega (arith, e)))) ∙ times-zero (pos (point_whole p t)) in
      omega (arith, ints, low, none, over-amounts g fix t st (table.entry g fix row))

  filled : pos 0 <ℤ place t.y 0 → amount table.always ≡ cover_whole g fix t
  filled above =
      let all = has.filled above in
      omega (arith, ints, all, over-amounts g fix t st (table.entry g fix table.whole), whole-over g fix amount)

  nonnegative : (c : table.Column) → pos 0 ≤ℤ amount c
  nonnegative c =
      total-nonneg (λ (i : ℕ). cond (is_same_column (column_at g fix t st i) c) (point_weight p t i) (pos 0)) (point_rows p t)
      (over-rows (λ (i : ℕ). pos 0 ≤ℤ cond (is_same_column (column_at g fix t st i) c) (point_weight p t i) (pos 0)) t p.height
      (λ i lt test. let w = weight-above p t sized st i lt test in elim (is_same_column (column_at g fix t st i) c) as (λ b. pos 0 ≤ℤ cond b (point_weight p t i) (pos 0)) [ true ↦ omega (arith, ints, w) | false ↦ omega (arith, ints) ]))

  choices : (r : ℕ) → 1 ≤ r → r ≤ resource_count g → total (λ (j : ℕ). amount (table.chooses r j)) (numbers (length (resource_schedules g r))) ≤ℤ amount table.always
  choices r low high = omega (arith, ints, row-low (table.spends r) (spends-listed g fix r low high), spends-over g fix amount r low high)

  within : (u : ℕ) → 1 ≤ u → u ≤ length g.goals → amount (table.covering u) ≤ℤ amount table.always
  within u low high = omega (arith, ints, row-low (table.within u) (within-listed g fix u low high), within-over g fix amount u low high)

  held : (u : ℕ) → 1 ≤ u → u ≤ length g.goals → amount (table.covering u) ≤ℤ total (λ (r : ℕ). total (λ (j : ℕ). holding g fix amount u r j) (numbers (length (resource_schedules g r)))) (numbers (resource_count g))
  held u low high = omega (arith, ints, row-low (table.held u) (held-listed g fix u low high), held-over g fix amount u low high)

  gains : (l b : ℕ) → IsComparison g fix (l, b) → attack_sum g fix amount l b ≤ℤ attack_sum g fix amount l (act_of fix l)
  gains l b is =
      let targets : action_count g l ≡ length g.goals = rw (no_matrix g security) refl in
      let known = is.action in
      let own = own-target g security fix is_fix l is.from_first is.in_range in
      omega (arith, ints, row-low (table.gains l b) (gains-listed g fix security l b is), gains-over g fix amount l b is.from_one (omega (arith, known, targets)) own.0 own.1)

  value : t.rho *ℤ total (defence_part g fix amount) (fixed fix) ≡ cover_whole g fix t *ℤ place t.y 0
  value = ap (λ (z : ℤ). t.rho *ℤ z) (sym (costs-over g fix amount security is_fix) ∙ over-amounts g fix t st (table.column_cost g fix)) ∙ has.value

  pub keeps : KeepsTable g fix t
  keeps = record { filled = filled; nonnegative = nonnegative; choices = choices; within = within; held = held; gains = gains; value = value }

pub point_keeps_table : PointKeepsTable
point_keeps_table g h unscaled security fix is_fix t st = keeps g h unscaled security fix is_fix t st
