use Rattle.std.proofs.Common.{rules, FitsSigned}
use Rattle.std.specs.Int.{w128}
use Rattle.std.proofs.lemmas.Int.{to_z-of_z}
use Rattle.sg_check.proofs.Valued.{best-next, formed-more}
use Rattle.sg_check.proofs.value.best_of.Goals as goal

pub loop-i-preserved : goal.loop-i-preserved
loop-i-preserved c =
    let g = c.args.game.now in
    let k = c.args.tickets.now in
    let q : FitsSigned w128 c.in-Some-table_a.sum = search rules in
    let kept = simp to_z-of_z at c.better-best.ensures.kept in
    let new = simp to_z-of_z at c.better-best.ensures.new in
    record {
      formed = formed-more g k c.args.l c.loop-i.i c.loop-i.invariant.formed c.in-Some-table_a.ensures.0;
      best = best-next g k c.args.l c.loop-i.i c.loop-i.best c.better-best.result c.in-Some-table_a.sum c.in-Some-table_a.ensures.1 kept new c.loop-i.invariant.best;
    }
