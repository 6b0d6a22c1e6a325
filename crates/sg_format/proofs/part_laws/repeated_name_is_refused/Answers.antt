use Rattle.sg_format.proofs.PartReasons.{repeated}
use Rattle.sg_format.proofs.part_laws.repeated_name_is_refused.Goals as goal

pub returns : goal.returns
returns c = repeated
