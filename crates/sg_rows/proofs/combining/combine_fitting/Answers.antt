use Rattle.std.proofs.Common.{◌<◌, length, arith, rules, sym}
use Rattle.std.specs.Int.{w128}
use Rattle.std.specs.Prelude.{FitsSigned}
use Rattle.std.proofs.lemmas.Int.{to_z-of_z}
use Rattle.sg_rows.proofs.Fitting.{combination-fits_at}
use Rattle.sg_rows.proofs.Placewise.{CombinedAt, all_combined, more_written}
use Rattle.sg_rows.proofs.combining.combine_fitting.Goals as goal

pub combined_fitting_at-value-requires-clause-fits : goal.combined_fitting_at-value-requires-clause-fits
combined_fitting_at-value-requires-clause-fits c =
    let fp : FitsSigned w128 c.args.p = c.ranges.p in
    let fq : FitsSigned w128 c.args.q = c.ranges.q in
    let m = c.loop-j.invariant in
    let long = m.long in
    let within : c.loop-j.j < length c.args.row.now = omega arith in
    let f = combination-fits_at c.args.p c.args.q c.args.row.now c.args.other.now c.loop-j.j c.requires.long within c.requires.fits in
    let here = sym (m.left c.loop-j.j (omega arith)) in
    simp to_z-of_z (rw here at f)

pub loop-j-preserved : goal.loop-j-preserved
loop-j-preserved c =
    let fp : FitsSigned w128 c.args.p = c.ranges.p in
    let fq : FitsSigned w128 c.args.q = c.ranges.q in
    let fv : FitsSigned w128 c.combined_fitting_at-value.result = search rules in
    let m = simp to_z-of_z at c.loop-j.invariant in
    let value = simp to_z-of_z at c.combined_fitting_at-value.ensures in
    let here = m.left c.loop-j.j (omega arith) in
    simp to_z-of_z (more_written (CombinedAt c.args.p c.args.q c.args.row.now c.args.other.now) c.args.row.now c.loop-j.row c.loop-j.j c.combined_fitting_at-value.result m (let long = m.long in omega arith) (rw here at value))

pub returns : goal.returns
returns c =
    let fp : FitsSigned w128 c.args.p = c.ranges.p in
    let fq : FitsSigned w128 c.args.q = c.ranges.q in
    let m = simp to_z-of_z at c.loop-j.invariant in
    all_combined c.args.p c.args.q c.args.row.now c.args.other.now c.loop-j.row c.loop-j.j c.requires.long m (let long = m.long in omega arith)
