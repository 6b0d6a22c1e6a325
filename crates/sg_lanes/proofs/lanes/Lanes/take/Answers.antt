use Rattle.sg_lanes.proofs.Glued.{take-kept}
use Rattle.sg_lanes.proofs.lanes.Lanes.take.Goals as goal

pub invariant_of-self : goal.invariant_of-self
invariant_of-self c = take-kept _ _ _ c.args.self.now c.args.lane c.args.node _ _ _ c.self.view_is c.self.invariant c.requires.may c.requires.waits c.give.ensures c.take_out.ensures c.take_out-2.ensures
