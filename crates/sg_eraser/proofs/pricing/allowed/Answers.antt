use Rattle.std.proofs.Common.{◌∙◌, rules, sym}
use Rattle.std.specs.Int.{w128}
use Rattle.std.specs.Prelude.{FitsSigned}
use Rattle.std.proofs.lemmas.Int.{to_z-of_z}
use Rattle.sg_eraser.proofs.Formed.{sum-all, sum-more, sum-stops}
use Rattle.sg_eraser.proofs.pricing.allowed.Goals as goal

pub returns-in-Err : goal.returns-in-Err
returns-in-Err c = sym (c.loop-entry.invariant ∙ sum-stops c.args.y.now c.args.entries.now c.loop-entry.entry-index _ _ c.in-Err.wide c.loop-entry-test.true (sym c.in-Err.is ∙ c.product_with.ensures.steps))

pub loop-entry-preserved : goal.loop-entry-preserved
loop-entry-preserved c =
    let fits : FitsSigned w128 c.in-Ok.next = search rules in
    simp to_z-of_z (c.loop-entry.invariant ∙ sum-more c.args.y.now c.args.entries.now c.loop-entry.entry-index _ _ c.in-Ok.next c.loop-entry-test.true (sym c.in-Ok.is ∙ c.product_with.ensures.steps) c.in-Ok.ensures.value)

pub returns : goal.returns
returns c = sym (c.loop-entry.invariant ∙ sum-all c.args.y.now c.args.entries.now c.loop-entry.entry-index _ c.loop-entry-test.false)
