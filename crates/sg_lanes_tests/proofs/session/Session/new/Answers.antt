use Rattle.sg_lanes_tests.proofs.Sessions.{joined}
use Rattle.sg_lanes_tests.proofs.session.Session.new.Goals as goal

pub invariant_of-result : goal.invariant_of-result
invariant_of-result c =
    joined c.args.game.now c.args.lanes c.args.nodes c.args.pivots _ _ c.in_ok-work.ensures c.in_ok-lanes.ensures.task c.in_ok-lanes.ensures.search
