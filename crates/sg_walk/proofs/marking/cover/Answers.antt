use Rattle.std.proofs.Common.{◌≡◌, refl, rules, to_z, of_z}
use Rattle.std.specs.Int.{w128}
use Rattle.std.proofs.lemmas.Int.{to_z-of_z}
use Rattle.sg_walk.proofs.Marked.{adds-more}
use Rattle.sg_walk.proofs.marking.cover.Goals as goal

pub loop-t-preserved : goal.loop-t-preserved
loop-t-preserved c =
    let is : to_z w128 (of_z w128 c.cover_target-total.result) ≡ c.cover_target-total.result = search (rules, to_z-of_z) in (
      adds-more c.args.targets.now c.loop-t.t-index _ c.args.r c.args.marks.now c.loop-t.marks c.cover_target-total.new.marks c.loop-t-test.true refl c.requires.positive c.loop-t.invariant.0 c.cover_target-total.ensures.marked,
      rw is c.cover_target-total.ensures.sum,
    )
