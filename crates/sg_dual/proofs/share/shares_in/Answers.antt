use Rattle.std.proofs.Common.{arith}
use Rattle.sg_dual.proofs.Shared.{shares-next, shares-stop}
use Rattle.sg_dual.proofs.share.shares_in.Goals as goal

pub returns-in-Err : goal.returns-in-Err
returns-in-Err g c =
    let p = g.F.Family.program c.args.family.now in
    let long = c.requires.long in
    let inside = c.loop-i-test.true in
    shares-stop p c.args.state.now.tableau c.loop-i.i c.loop-i.shares c.in-Err.wide c.loop-i.invariant.1 (omega (arith, long, inside)) c.in-Err.ensures.share

pub loop-i-preserved : goal.loop-i-preserved
loop-i-preserved g c =
    let p = g.F.Family.program c.args.family.now in
    (c.share_at.ensures.long, shares-next p c.args.state.now.tableau c.loop-i.i c.loop-i.shares c.put.new.shares c.in-Ok.share c.loop-i.invariant.1 c.in-Ok.ensures.share c.in-Ok-put.ensures)
