use Rattle.std.proofs.Common.{arith, ap}
use Rattle.sg_lanes.specs.Machines.{Machine}
use Rattle.sg_lanes.proofs.Lanewise.{held-test}
use Rattle.sg_lanes.proofs.lanes.Lanes.holds.Goals as goal

pub returns-in-Some : goal.returns-in-Some
returns-in-Some c =
    held-test _ c.args.self.now.search c.args.lane c.index.result.now c.in-Some.held c.args.ended (ap (λ (m : Machine). m.search) c.self.view_is)
    (omega (arith, c.if-lane-eq0.false)) (omega (arith, c.if-lane-len.false, c.len.ensures)) c.index.ensures c.in-Some.is
