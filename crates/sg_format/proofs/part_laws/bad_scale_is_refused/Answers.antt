use Rattle.sg_format.proofs.Scales.{scales}
use Rattle.sg_format.proofs.part_laws.bad_scale_is_refused.Goals as goal

pub returns : goal.returns
returns c = scales
