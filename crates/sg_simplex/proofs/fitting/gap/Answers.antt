use Rattle.std.proofs.Common.{◌∙◌, [], ◌∷◌, sym, rules, pos}
use Rattle.std.specs.Int.{w128, w64}
use Rattle.std.specs.Prelude.{FitsSigned, ◌-ℤ◌, ◌*ℤ◌}
use Rattle.std.proofs.lemmas.Int.{to_z-of_z}
use Rattle.sg_num.specs.Operations.{minus, times}
use Rattle.sg_rows.specs.Rows.{dot_from, dot_steps}
use Rattle.sg_simplex.proofs.Gaps.{gap_formed, gap_stops}
use Rattle.sg_simplex.proofs.fitting.gap.Goals as goal

pub returns-in-Ok : goal.returns-in-Ok
returns-in-Ok c =
    let fr : FitsSigned w128 c.args.rho = c.ranges.rho in
    let fc : FitsSigned w64 c.args.cost = c.ranges.cost in
    let fs : FitsSigned w128 c.in-Ok.sum = search rules in
    let d = dot_steps (pos 0) c.args.y.now c.args.entries.now in
    let v = dot_from (pos 0) c.args.y.now c.args.entries.now in
    let e = simp to_z-of_z at c.short.ensures in
    gap_formed d v c.in-Ok.sum c.args.rho c.args.cost c.short.result (sym c.in-Ok.is ∙ c.dot.ensures) e

pub returns-in-Err : goal.returns-in-Err
returns-in-Err c =
    let d = dot_steps (pos 0) c.args.y.now c.args.entries.now in
    let v = dot_from (pos 0) c.args.y.now c.args.entries.now in
    gap_stops d (times c.args.rho c.args.cost ∷ minus v (c.args.rho *ℤ c.args.cost) ∷ []) v (v -ℤ (c.args.rho *ℤ c.args.cost)) c.in-Err.wide (sym c.in-Err.is ∙ c.dot.ensures)
