use Rattle.sg_format.proofs.PartReasons.{empty_part}
use Rattle.sg_format.proofs.part_laws.empty_part_is_refused.Goals as goal

pub returns : goal.returns
returns c = empty_part
