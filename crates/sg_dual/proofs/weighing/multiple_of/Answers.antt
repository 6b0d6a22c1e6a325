use Rattle.std.proofs.Common.{rules, FitsSigned, to_z}
use Rattle.std.specs.Int.{w128}
use Rattle.std.proofs.lemmas.Int.{to_z-of_z}
use Rattle.sg_dual.proofs.Shared.{share-next, share-stops}
use Rattle.sg_dual.proofs.weighing.multiple_of.Goals as goal

pub returns-in-Err : goal.returns-in-Err
returns-in-Err c =
    let shares = c.args.shares.now in
    let den : FitsSigned w128 c.den_at.result = search rules in
    share-stops shares c.loop-i.i (to_z w128 c.loop-i.multiple-bits) c.den_at.result c.loop-i.invariant c.loop-i-test.true c.den_at.ensures.den c.den_at.ensures.above
    c.in-Err.wide (simp to_z-of_z at c.in-Err.ensures)

pub loop-i-preserved : goal.loop-i-preserved
loop-i-preserved c =
    let shares = c.args.shares.now in
    let den : FitsSigned w128 c.den_at.result = search rules in
    let next : FitsSigned w128 c.in-Ok.next = search rules in
    simp to_z-of_z (share-next shares c.loop-i.i (to_z w128 c.loop-i.multiple-bits) c.den_at.result c.loop-i.invariant c.loop-i-test.true c.den_at.ensures.den c.den_at.ensures.above
    c.in-Ok.next (simp to_z-of_z at c.in-Ok.ensures))
