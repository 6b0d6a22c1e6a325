use Rattle.sg_format.proofs.Heads.{heads}
use Rattle.sg_format.proofs.part_laws.head_is_refused.Goals as goal

pub returns : goal.returns
returns c = heads
