use Rattle.std.proofs.Common.{rules, FitsSigned, to_z}
use Rattle.std.specs.Int.{w128}
use Rattle.std.proofs.lemmas.Int.{to_z-of_z}
use Rattle.sg_dual.proofs.Shared.{no_part, total-next, total-stops}
use Rattle.sg_dual.proofs.weighing.add_up.Goals as goal

pub returns-in-Err : goal.returns-in-Err
returns-in-Err c =
    let weight : FitsSigned w128 c.weight_at.result = search rules in
    total-stops c.args.parts.now c.loop-i.i (to_z w128 c.loop-i.total-bits) c.weight_at.result c.loop-i-test.true c.weight_at.ensures no_part c.loop-i.invariant c.in-Err.wide (simp to_z-of_z at c.in-Err.ensures)

pub loop-i-preserved : goal.loop-i-preserved
loop-i-preserved c =
    let weight : FitsSigned w128 c.weight_at.result = search rules in
    let next : FitsSigned w128 c.in-Ok.next = search rules in
    simp to_z-of_z (total-next c.args.parts.now c.loop-i.i (to_z w128 c.loop-i.total-bits) c.weight_at.result c.loop-i-test.true c.weight_at.ensures no_part c.loop-i.invariant c.in-Ok.next (simp to_z-of_z at c.in-Ok.ensures))
