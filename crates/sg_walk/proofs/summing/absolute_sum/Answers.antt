use Rattle.std.proofs.Common.{rules, ◌∙◌, sym}
use Rattle.std.specs.Int.{w128}
use Rattle.std.specs.Prelude.{FitsSigned}
use Rattle.std.proofs.lemmas.Int.{to_z-of_z}
use Rattle.sg_walk.proofs.Summed.{sum_more, sum_stops}
use Rattle.sg_walk.proofs.summing.absolute_sum.Goals as goal

pub returns-in-Err : goal.returns-in-Err
returns-in-Err c =
    sym (c.loop-k.invariant ∙ sum_stops c.args.weights.now c.loop-k.k _ c.in-Err.wide c.loop-k-test.true (sym c.in-Err.is ∙ c.plus_absolute.ensures))

pub loop-k-preserved : goal.loop-k-preserved
loop-k-preserved c =
    let fits : FitsSigned w128 c.in-Ok.next = search rules in
    simp to_z-of_z (c.loop-k.invariant ∙ sum_more c.args.weights.now c.loop-k.k _ c.in-Ok.next c.loop-k-test.true (sym c.in-Ok.is ∙ c.plus_absolute.ensures))
