use Rattle.std.proofs.Common.{◌∙◌, sym}
use Rattle.std.specs.Int.{w128}
use Rattle.std.specs.Prelude.{FitsSigned}
use Rattle.std.proofs.lemmas.Int.{to_z-of_z}
use Rattle.sg_rows.specs.Rows.{combine_steps}
use Rattle.sg_rows.proofs.Fitting.{Ok-fits}
use Rattle.sg_rows.proofs.combining.combine.Goals as goal

pub combine_fitting-requires-clause-fits : goal.combine_fitting-requires-clause-fits
combine_fitting-requires-clause-fits c =
    let fp : FitsSigned w128 c.args.p = c.ranges.p in
    let fq : FitsSigned w128 c.args.q = c.ranges.q in
    let is = simp to_z-of_z at c.combination_fits.ensures in
    simp to_z-of_z (Ok-fits (combine_steps c.args.p c.args.q c.args.row.now c.args.other.now) tt tt (sym c.in-Ok.is ∙ is))
