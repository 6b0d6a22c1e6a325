use Rattle.std.proofs.Common.{rules, ◌∙◌, sym}
use Rattle.std.specs.Int.{w128}
use Rattle.std.specs.Prelude.{FitsSigned}
use Rattle.std.proofs.lemmas.Int.{to_z-of_z}
use Rattle.sg_rows.proofs.Forming.{dot_more, dot_stops}
use Rattle.sg_rows.proofs.summing.dot.Goals as goal

pub returns-in-Err : goal.returns-in-Err
returns-in-Err c =
    sym (c.loop-j.invariant ∙ dot_stops c.args.row.now c.args.col.now c.loop-j.j _ c.in-Err.wide c.loop-j-test.true c.requires (sym c.in-Err.is ∙ c.dot_at.ensures.steps))

pub loop-j-preserved : goal.loop-j-preserved
loop-j-preserved c =
    let fits : FitsSigned w128 c.in-Ok.next = search rules in
    simp to_z-of_z (c.loop-j.invariant ∙ dot_more c.args.row.now c.args.col.now c.loop-j.j _ c.in-Ok.next c.loop-j-test.true c.requires (sym c.in-Ok.is ∙ c.dot_at.ensures.steps) c.in-Ok.ensures.value)
