use Rattle.sg_format.proofs.PartReasons.{long_part}
use Rattle.sg_format.proofs.part_laws.long_part_is_refused.Goals as goal

pub returns : goal.returns
returns c = long_part
