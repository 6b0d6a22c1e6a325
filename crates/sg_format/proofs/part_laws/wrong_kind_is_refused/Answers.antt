use Rattle.sg_format.proofs.PartReasons.{wrong}
use Rattle.sg_format.proofs.part_laws.wrong_kind_is_refused.Goals as goal

pub returns : goal.returns
returns c = wrong
