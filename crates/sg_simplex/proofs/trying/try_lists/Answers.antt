use Rattle.std.proofs.Common.{◌∙◌, ap, length, rules, sym}
use Rattle.std.specs.Int.{w64, w128}
use Rattle.std.specs.Prelude.{FitsSigned}
use Rattle.std.proofs.lemmas.Int.{to_z-of_z}
use Rattle.std.proofs.lemmas.List.FromFn.{length-map-range_with_len}
use Rattle.sg_rows.proofs.Fitting.{Err-stops, Ok-fits, Ok-value}
use Rattle.sg_lp.specs.Programs.{member_entry}
use Rattle.sg_lp.specs.Moves.{gap_of, gap_steps, multiplier_steps, row_steps}
use Rattle.sg_lp.proofs.Leaving.{entering-member}
use Rattle.sg_simplex.proofs.Tried.{all_fit, gap_by, gap_stops, multipliers_stop, rows_stop}
use Rattle.sg_simplex.proofs.trying.try_lists.Goals as goal

pub returns-in-Err : goal.returns-in-Err
returns-in-Err g c =
    let p = g.F.Family.program c.args.family.now in
    let t = c.args.state.now.tableau in
    let q = c.args.products.now in
    rows_stop p t c.args.member.now q c.args.row c.requires.leaving c.in-Err.wide (Err-stops (row_steps t.rows q c.args.row) tt c.in-Err.wide (sym c.in-Err.is ∙ c.rows_fit.ensures))

pub cost_of-requires : goal.cost_of-requires
cost_of-requires g c = entering-member (g.F.Family.program c.args.family.now) c.args.state.now.tableau c.args.member.now c.requires.enters

pub gap-requires : goal.gap-requires
gap-requires g c =
    let p = g.F.Family.program c.args.family.now in
    ap length c.multipliers.ensures ∙ c.requires.state.shaped.y_long ∙ sym (ap length c.requires.entries ∙ length-map-range_with_len (member_entry p c.args.member.now) 0 p.height)

pub returns-in-Err-gap : goal.returns-in-Err-gap
returns-in-Err-gap g c =
    let p = g.F.Family.program c.args.family.now in
    let t = c.args.state.now.tableau in
    let s = c.args.member.now in
    let q = c.args.products.now in
    let r = c.args.row in
    let frho : FitsSigned w128 c.rho.result = search rules in
    let fcost : FitsSigned w64 c.cost_of.result = search rules in
    let rows = Ok-fits (row_steps t.rows q r) tt c.in_default.field-0 (sym c.in_default.is ∙ c.rows_fit.ensures) in
    let e = simp to_z-of_z at c.gap.ensures in
    let is = gap_by p t s c.multipliers.result.now c.args.entries.now c.rho.result c.cost_of.result c.gap.result c.multipliers.ensures c.requires.entries c.rho.ensures c.cost_of.ensures e in
    gap_stops p t s q r c.requires.leaving rows c.in-Err-gap.wide (Err-stops (gap_steps p t s) (gap_of p t s) c.in-Err-gap.wide (sym c.in-Err-gap.is ∙ is))

pub returns-in-Ok-multipliers_fit : goal.returns-in-Ok-multipliers_fit
returns-in-Ok-multipliers_fit g c =
    let p = g.F.Family.program c.args.family.now in
    let t = c.args.state.now.tableau in
    let s = c.args.member.now in
    let q = c.args.products.now in
    let r = c.args.row in
    let frho : FitsSigned w128 c.rho.result = search rules in
    let fcost : FitsSigned w64 c.cost_of.result = search rules in
    let fgap : FitsSigned w128 c.in-Ok.gap = search rules in
    let rows = Ok-fits (row_steps t.rows q r) tt c.in_default.field-0 (sym c.in_default.is ∙ c.rows_fit.ensures) in
    let e = simp to_z-of_z at c.gap.ensures in
    let is = sym c.in-Ok.is ∙ gap_by p t s c.multipliers.result.now c.args.entries.now c.rho.result c.cost_of.result c.gap.result c.multipliers.ensures c.requires.entries c.rho.ensures c.cost_of.ensures e in
    let last = simp to_z-of_z at c.multipliers_fit.ensures in
    simp to_z-of_z (all_fit p t s q r c.requires.leaving rows (Ok-fits (gap_steps p t s) (gap_of p t s) c.in-Ok.gap is) c.in-Ok.gap (Ok-value (gap_steps p t s) (gap_of p t s) c.in-Ok.gap is)
    (Ok-fits (multiplier_steps t q c.in-Ok.gap r) tt c.in-Ok-multipliers_fit.field-0 (sym c.in-Ok-multipliers_fit.is ∙ last)))

pub returns-in-Err-multipliers_fit : goal.returns-in-Err-multipliers_fit
returns-in-Err-multipliers_fit g c =
    let p = g.F.Family.program c.args.family.now in
    let t = c.args.state.now.tableau in
    let s = c.args.member.now in
    let q = c.args.products.now in
    let r = c.args.row in
    let frho : FitsSigned w128 c.rho.result = search rules in
    let fcost : FitsSigned w64 c.cost_of.result = search rules in
    let fgap : FitsSigned w128 c.in-Ok.gap = search rules in
    let rows = Ok-fits (row_steps t.rows q r) tt c.in_default.field-0 (sym c.in_default.is ∙ c.rows_fit.ensures) in
    let e = simp to_z-of_z at c.gap.ensures in
    let is = sym c.in-Ok.is ∙ gap_by p t s c.multipliers.result.now c.args.entries.now c.rho.result c.cost_of.result c.gap.result c.multipliers.ensures c.requires.entries c.rho.ensures c.cost_of.ensures e in
    let last = simp to_z-of_z at c.multipliers_fit.ensures in
    multipliers_stop p t s q r c.requires.leaving rows (Ok-fits (gap_steps p t s) (gap_of p t s) c.in-Ok.gap is) c.in-Ok.gap (Ok-value (gap_steps p t s) (gap_of p t s) c.in-Ok.gap is) c.in-Err-multipliers_fit.wide
    (Err-stops (multiplier_steps t q c.in-Ok.gap r) tt c.in-Err-multipliers_fit.wide (sym c.in-Err-multipliers_fit.is ∙ last))
