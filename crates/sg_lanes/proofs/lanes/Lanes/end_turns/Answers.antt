use Rattle.sg_lanes.proofs.Glued.{end-kept}
use Rattle.sg_lanes.proofs.lanes.Lanes.end_turns.Goals as goal

pub invariant_of-self : goal.invariant_of-self
invariant_of-self c = end-kept _ _ _ c.args.self.now c.args.lane _ c.self.view_is c.self.invariant c.requires.0 c.requires.1 c.set_ended.ensures
