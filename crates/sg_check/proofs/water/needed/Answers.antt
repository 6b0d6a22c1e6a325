use Rattle.std.proofs.Common.{◌+ℤ◌, arith, refl, to_z}
use Rattle.std.specs.Int.{w128}
use Rattle.std.specs.Prelude.{FitsSigned}
use Rattle.std.proofs.lemmas.Int.{ints, to_z-of_z}
use Rattle.sg_check.proofs.Spans.{made_sum}
use Rattle.sg_check.proofs.Watered.{needed-more}
use Rattle.sg_check.proofs.water.needed.Goals as goal

pub loop-i-preserved : goal.loop-i-preserved
loop-i-preserved c =
    let q : FitsSigned w128 c.count-sum.result = record { sfits = c.count-sum.type_inv } in
    let e = to_z-of_z w128 c.count-sum.result q in
    let i = c.loop-i.invariant in
    let fit : FitsSigned w128 (to_z w128 c.loop-i.sum-bits +ℤ c.count-sum.result) = omega (arith, ints, i.low, i.high, c.count-sum.ensures.low, c.count-sum.ensures.high, c.loop-i-test.true, c.targets-i-end.ensures.few) in
    needed-more c.args.game.now c.args.level.now.num c.args.level.now.den c.loop-i.i (to_z w128 c.loop-i.sum-bits) c.count-sum.result _ i c.count-sum.ensures.value c.count-sum.ensures.low c.count-sum.ensures.high
    (made_sum (to_z w128 c.loop-i.sum-bits) c.count-sum.result (to_z w128 c.loop-i.sum-bits) _ refl e fit).1
