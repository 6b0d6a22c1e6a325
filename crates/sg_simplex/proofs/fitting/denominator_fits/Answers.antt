use Rattle.std.proofs.Common.{◌∙◌, sym, pos}
use Rattle.std.specs.Int.{w128}
use Rattle.std.specs.Prelude.{FitsSigned}
use Rattle.std.proofs.lemmas.Int.{to_z-of_z}
use Rattle.sg_simplex.proofs.Gaps.{last_fits, last_stops}
use Rattle.sg_simplex.proofs.fitting.denominator_fits.Goals as goal

pub returns-in-Ok : goal.returns-in-Ok
returns-in-Ok c =
    let fr : FitsSigned w128 c.args.rho = c.ranges.rho in
    let fp : FitsSigned w128 c.args.p = c.ranges.p in
    let fg : FitsSigned w128 c.args.gap = c.ranges.gap in
    let e = simp to_z-of_z at (sym c.in-Ok.is ∙ c.mul_sub.ensures.steps) in
    last_fits c.args.rho c.args.p c.args.gap (pos 0) _ e

pub returns-in-Err : goal.returns-in-Err
returns-in-Err c =
    let fr : FitsSigned w128 c.args.rho = c.ranges.rho in
    let fp : FitsSigned w128 c.args.p = c.ranges.p in
    let fg : FitsSigned w128 c.args.gap = c.ranges.gap in
    let e = simp to_z-of_z at (sym c.in-Err.is ∙ c.mul_sub.ensures.steps) in
    last_stops c.args.rho c.args.p c.args.gap (pos 0) c.in-Err.wide e
