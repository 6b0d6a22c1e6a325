use Rattle.std.proofs.Common.{◌≡◌, true, false}
use Rattle.sg_lanes.proofs.Joined.{ended-together, ended-turn, is-held, load-going, loaded, moved-together, moved-turn, not-held}
use Rattle.sg_lanes.proofs.lanes.Lanes.turn.Goals as goal

pub returns-then-not-holds-clause-ends : goal.returns-then-not-holds-clause-ends
returns-then-not-holds-clause-ends g c = λ l is e. absurd (not-held c.args.self.now.search c.args.lane false c.holds.result c.if-not-holds.true c.holds.ensures (load-going _ c.args.self.now.search c.args.lane l c.requires.same_lanes is e))

pub step-requires : goal.step-requires
step-requires g c =
    let h = is-held c.args.self.now.search c.args.lane false c.holds.result c.if-not-holds.false c.holds.ensures in
    loaded _ c.args.self.now.search c.args.lane h.0 false c.requires.same_lanes h.1

pub returns-in-Moved-clause-together : goal.returns-in-Moved-clause-together
returns-in-Moved-clause-together g c =
    let h = is-held c.args.self.now.search c.args.lane false c.holds.result c.if-not-holds.false c.holds.ensures in
    let e = c.in-Moved.ensures in
    moved-together _ _ _ _ _ _ _ _ _ _ c.args.self.now c.args.lane c.requires e.same e.tests h e.step.0 e.step.1 e.step.3

pub returns-in-Moved-clause-answers : goal.returns-in-Moved-clause-answers
returns-in-Moved-clause-answers g c =
    let h = is-held c.args.self.now.search c.args.lane false c.holds.result c.if-not-holds.false c.holds.ensures in
    moved-turn c.args.self.now.task c.args.self.now.search c.args.lane h.0 h.1

pub returns-in-Ended-clause-together : goal.returns-in-Ended-clause-together
returns-in-Ended-clause-together g c =
    let e = c.in-Ended.ensures in
    ended-together _ _ _ _ _ _ _ _ _ _ c.args.self.now c.end_turns.new.self c.args.lane c.requires e.same e.tests c.end_turns.ensures.task c.end_turns.ensures.goes e.step.0 e.step.1 e.step.3

pub returns-in-Ended-clause-answers : goal.returns-in-Ended-clause-answers
returns-in-Ended-clause-answers g c = ended-turn c.args.self.now.task c.args.self.now.search c.end_turns.new.self.search c.args.lane c.end_turns.ensures.goes
