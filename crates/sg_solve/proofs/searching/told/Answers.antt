use Rattle.std.proofs.Common.{◌+◌, arith}
use Rattle.sg_solve.proofs.Asked.{told-more}
use Rattle.sg_solve.proofs.searching.told.Goals as goal

pub loop-place-preserved : goal.loop-place-preserved
loop-place-preserved c =
    let i = c.loop-place.invariant in
    let lt = c.loop-place-test.true in
    let most = c.requires in
    told-more c.args.lanes.now c.loop-place.place c.loop-place.ready c.enabled.result i.1 (omega (arith, lt, most)) i.0 c.enabled.ensures
