use Rattle.std.proofs.Common.{◌∙◌, sym, pos}
use Rattle.std.specs.Int.{w128}
use Rattle.std.specs.Prelude.{FitsSigned}
use Rattle.std.proofs.lemmas.Int.{to_z-of_z}
use Rattle.sg_simplex.proofs.Gaps.{with_fits, with_stops}
use Rattle.sg_simplex.proofs.fitting.combination_fits_with.Goals as goal

pub returns-in-Ok : goal.returns-in-Ok
returns-in-Ok c =
    let fr : FitsSigned w128 c.args.rho = c.ranges.rho in
    let fp : FitsSigned w128 c.args.p = c.ranges.p in
    let fg : FitsSigned w128 c.args.gap = c.ranges.gap in
    let front = simp to_z-of_z at (sym c.in-Ok.is ∙ c.combination_fits.ensures) in
    let e = simp to_z-of_z at c.denominator_fits.ensures in
    with_fits c.args.p c.args.gap c.args.y.now c.args.pivot.now c.args.rho (pos 0) c.denominator_fits.result c.requires front e

pub returns-in-Err : goal.returns-in-Err
returns-in-Err c =
    let fp : FitsSigned w128 c.args.p = c.ranges.p in
    let fg : FitsSigned w128 c.args.gap = c.ranges.gap in
    let e = simp to_z-of_z at (sym c.in-Err.is ∙ c.combination_fits.ensures) in
    with_stops c.args.p c.args.gap c.args.y.now c.args.pivot.now c.args.rho (pos 0) c.in-Err.wide c.requires e
