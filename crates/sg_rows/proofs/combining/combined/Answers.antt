use Rattle.std.proofs.Common.{[]}
use Rattle.std.specs.Int.{w128}
use Rattle.std.specs.Prelude.{FitsSigned}
use Rattle.std.proofs.lemmas.Int.{to_z-of_z}
use Rattle.sg_rows.proofs.Fitting.{fit_at}
use Rattle.sg_rows.proofs.combining.combined.Goals as goal

pub overflow_sub-result : goal.overflow_sub-result
overflow_sub-result c =
    let fx : FitsSigned w128 c.args.x = c.ranges.x in
    let fp : FitsSigned w128 c.args.p = c.ranges.p in
    let fq : FitsSigned w128 c.args.q = c.ranges.q in
    let fy : FitsSigned w128 c.args.y = c.ranges.y in
    let f = fit_at c.args.p c.args.q c.args.x c.args.y [] c.requires in
    let fl = f.left in
    let fr = f.right in
    simp to_z-of_z f.difference

pub returns : goal.returns
returns c =
    let fx : FitsSigned w128 c.args.x = c.ranges.x in
    let fp : FitsSigned w128 c.args.p = c.ranges.p in
    let fq : FitsSigned w128 c.args.q = c.ranges.q in
    let fy : FitsSigned w128 c.args.y = c.ranges.y in
    let f = fit_at c.args.p c.args.q c.args.x c.args.y [] c.requires in
    let fl = f.left in
    let fr = f.right in
    let fd = f.difference in
    simp to_z-of_z
