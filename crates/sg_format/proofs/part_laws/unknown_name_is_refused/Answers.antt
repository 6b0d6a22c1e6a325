use Rattle.sg_format.proofs.PartReasons.{unknown_name_is}
use Rattle.sg_format.proofs.part_laws.unknown_name_is_refused.Goals as goal

pub returns : goal.returns
returns c = unknown_name_is
