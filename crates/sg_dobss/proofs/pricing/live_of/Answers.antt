use Rattle.sg_dobss.proofs.Living.{living-all, living-more-by, living-zero-by}
use Rattle.sg_dobss.proofs.pricing.live_of.Goals as goal
use Rattle.sg_dobss.proofs.pricing.live_of.Goals.{then-is_live, else-is_live}

pub loop-j-preserved : goal.loop-j-preserved
loop-j-preserved c =
    let inv = c.loop-j.invariant in
    elim c.if-is_live.branch [
      | then-is_live w ↦ living-more-by c.args.y.now c.loop-j.j c.loop-j.count c.loop-j.places c.if-is_live.places c.if-is_live.count c.loop-j-test.true c.requires inv.0 inv.1 inv.2 w.places-is w.count-is
      | else-is_live w ↦ living-zero-by c.args.y.now c.loop-j.j c.loop-j.count c.loop-j.places c.if-is_live.places c.if-is_live.count c.is_live.result c.loop-j-test.true c.is_live.ensures w.if-is_live.false inv.0 inv.1 inv.2 w.places-is w.count-is
    ]

pub returns-clause-kept : goal.returns-clause-kept
returns-clause-kept c = living-all c.args.y.now c.loop-j.j _ c.loop-j-test.false c.loop-j.invariant.2
