use Rattle.std.proofs.Common.{◌∙◌, sym}
use Rattle.std.specs.Int.{w128}
use Rattle.std.specs.Prelude.{FitsSigned}
use Rattle.std.proofs.lemmas.Int.{to_z-of_z}
use Rattle.sg_rows.proofs.Forming.{combine_stops}
use Rattle.sg_rows.proofs.combining.combination_fits.Goals as goal

pub returns-in-Err : goal.returns-in-Err
returns-in-Err c =
    let fp : FitsSigned w128 c.args.p = c.ranges.p in
    let fq : FitsSigned w128 c.args.q = c.ranges.q in
    let is = simp to_z-of_z at c.combined_at.ensures.steps in
    let inv = simp to_z-of_z at c.loop-j.invariant in
    sym (inv ∙ combine_stops c.args.p c.args.q c.args.row.now c.args.other.now c.loop-j.j tt c.in-Err.wide c.loop-j-test.true c.requires (sym c.in-Err.is ∙ is))
