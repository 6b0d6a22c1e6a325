use Rattle.sg_format.proofs.PartReasons.{out}
use Rattle.sg_format.proofs.part_laws.out_of_range_is_refused.Goals as goal

pub returns : goal.returns
returns c = out
