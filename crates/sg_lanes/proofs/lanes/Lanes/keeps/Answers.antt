use Rattle.sg_lanes.proofs.Known.{nodes-of, sound-of}
use Rattle.sg_lanes.proofs.lanes.Lanes.keeps.Goals as goal

pub returns : goal.returns
returns c = record {
  sound = sound-of _ _ _ c.args.self.now c.self.view_is c.self.invariant;
  nodes = nodes-of _ _ _ c.args.self.now c.self.view_is c.self.invariant;
}
