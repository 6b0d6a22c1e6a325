use Rattle.std.proofs.Common.{◌∙◌, sym}
use Rattle.sg_matchings.specs.Tables.{cell}
use Rattle.sg_matchings.proofs.Parts.{freed-kept, freed-zero, is_above}
use Rattle.sg_matchings.proofs.decomposing.free_zeros.Goals.{then-not-is_positive, else-not-is_positive}
use Rattle.sg_matchings.proofs.decomposing.free_zeros.Goals as goal
use Rattle.std.proofs.Common.{get_or}

pub loop-row-preserved : goal.loop-row-preserved
loop-row-preserved c =
    let rows = c.args.rows.now in
    let m = c.loop-row.matched in
    let k = c.loop-row.row in
    elim c.if-not-is_positive.branch [
      | then-not-is_positive w ↦ freed-zero rows c.args.matched.now m c.if-not-is_positive.matched k c.loop-row-test.true c.loop-row.invariant w.matched-is
      | else-not-is_positive w ↦ freed-kept rows c.args.matched.now m c.if-not-is_positive.matched k c.loop-row-test.true c.loop-row.invariant
          (is_above (cell rows k (get_or m k 0)) (sym c.is_positive.ensures ∙ w.if-not-is_positive.false)) w.matched-is
    ]
