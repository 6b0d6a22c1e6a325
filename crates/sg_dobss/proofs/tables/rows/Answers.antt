use Rattle.std.proofs.Common.{arith}
use Rattle.sg_dobss.proofs.Gains.{rows-end, rows-next}
use Rattle.sg_dobss.proofs.tables.rows.Goals as goal

pub loop-i-preserved : goal.loop-i-preserved
loop-i-preserved c =
    rows-next c.args.game.now c.args.fix.now c.loop-i.i c.type_at-l.result c.act_at-act.result c.loop-i.rows c.in_ok-more.more c.append.new.self (omega (arith, c.loop-i-test.true, c.len-i-end.ensures)) c.type_at-l.ensures.number
    c.act_at-act.ensures.number c.loop-i.invariant c.in_ok-more.ensures c.in_ok-append.ensures

pub returns : goal.returns
returns c = rows-end c.args.game.now c.args.fix.now c.loop-i.i c.loop-i.rows (omega (arith, c.loop-i-test.false, c.len-i-end.ensures)) (omega (arith, c.loop-i.auto.i-end, c.len-i-end.ensures)) c.loop-i.invariant
