use Rattle.std.proofs.Common.{arith}
use Rattle.sg_desk.proofs.Marked.{all-end, all-marked}
use Rattle.sg_desk.proofs.marking.marks.Goals as goal

pub loop-i-preserved : goal.loop-i-preserved
loop-i-preserved c =
    let lt = c.loop-i-test.true in
    record {
      marked =
          all-marked c.args.game.now c.args.fix.now c.loop-i.marks c.put_type.new.marks c.loop-i.i c.loop-i.row c.in_ok-row.row c.type_at-l.result c.act_at.result c.args.y.now (omega (arith, lt, c.len-i-end.ensures)) c.type_at-l.ensures.number c.act_at.ensures
          c.loop-i.invariant.marked c.in_ok-row.ensures.next c.in_ok-row.ensures.marks;
      near = omega (arith, c.loop-i.invariant.near, c.in_ok-row.ensures.near);
    }

pub returns : goal.returns
returns c =
    all-end c.args.game.now c.args.fix.now c.loop-i.marks c.loop-i.i c.loop-i.row c.args.y.now (omega (arith, c.loop-i-test.false, c.len-i-end.ensures)) (omega (arith, c.loop-i.auto.i-end, c.len-i-end.ensures)) c.loop-i.invariant.marked
