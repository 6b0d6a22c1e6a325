use Rattle.std.proofs.Common.{true}
use Rattle.sg_lanes.proofs.Finished.{closed-answer, closed-together, finding-gives}
use Rattle.sg_lanes.proofs.Joined.{is-held, loaded}
use Rattle.sg_lanes.proofs.lanes.Lanes.finish.Goals as goal

pub finish-requires : goal.finish-requires
finish-requires g c =
    let h = is-held c.args.self.now.search c.args.lane true c.holds.result c.if-not-holds.false c.holds.ensures in
    loaded _ c.args.self.now.search c.args.lane h.0 true c.requires.same_lanes h.1

pub clear-requires : goal.clear-requires
clear-requires g c =
    let h = is-held c.args.self.now.search c.args.lane true c.holds.result c.if-not-holds.false c.holds.ensures in
    loaded _ c.args.self.now.search c.args.lane h.0 true c.requires.same_lanes h.1

pub settle-requires : goal.settle-requires
settle-requires g c =
    let h = is-held c.args.self.now.search c.args.lane true c.holds.result c.if-not-holds.false c.holds.ensures in
    finding-gives _ _ _ _ c.args.self.now c.args.lane c.requires c.in_ok-found.found c.in_ok-found.ensures h

pub returns-clause-together : goal.returns-clause-together
returns-clause-together g c =
    closed-together _ _ _ _ c.args.self.now c.args.lane c.requires _ _ _ _ _ _ c.settle.new.self c.clear.ensures.same c.clear.ensures.tests c.in_ok-settle.ensures.task c.clear.ensures.cleared
    c.in_ok-found.found c.in_ok-found.ensures c.in_ok-settle.ensures.goes

pub returns-clause-answers : goal.returns-clause-answers
returns-clause-answers g c = closed-answer c.args.self.now.task c.args.self.now.search c.settle.new.self.search c.args.lane c.in_ok-found.found c.in_ok-settle.ensures.goes
