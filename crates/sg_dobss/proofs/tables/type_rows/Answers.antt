use Rattle.sg_dobss.proofs.Gains.{type-more-by, type-same-by}
use Rattle.sg_dobss.proofs.tables.type_rows.Goals as goal
use Rattle.sg_dobss.proofs.tables.type_rows.Goals.{then-i-act+in_ok-row+in_ok-push, else-i-act}

pub loop-i-preserved : goal.loop-i-preserved
loop-i-preserved c =
    let a = c.args in
    elim c.if-i-act.branch [
      | then-i-act+in_ok-row+in_ok-push w ↦ type-more-by a.game.now a.l a.act c.loop-i.i c.loop-i.rows w.in_ok-row.row w.push.new.self c.if-i-act.rows w.if-i-act.true c.loop-i.invariant w.in_ok-row.ensures w.in_ok-push.ensures.ok w.rows-is
      | else-i-act w ↦ type-same-by a.game.now a.l a.act c.loop-i.i c.loop-i.rows c.if-i-act.rows w.if-i-act.false c.loop-i.invariant w.rows-is
    ]
