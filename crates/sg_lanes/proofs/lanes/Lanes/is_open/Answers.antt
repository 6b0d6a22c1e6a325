use Rattle.sg_lanes.proofs.Counted.{open-of}
use Rattle.sg_lanes.proofs.lanes.Lanes.is_open.Goals as goal

pub returns : goal.returns
returns c =
    open-of _ _ _ c.args.self.now c.open_count-takes.result c.is_open_by.result _ _ _ c.self.view_is c.self.invariant
    c.open_count-takes.ensures c.as_slice.ensures.value c.as_slice-2.ensures.value c.as_slice-3.ensures.value c.is_open_by.ensures c.requires
