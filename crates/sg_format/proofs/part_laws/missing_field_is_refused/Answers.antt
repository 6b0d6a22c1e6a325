use Rattle.sg_format.proofs.PartReasons.{missing_field}
use Rattle.sg_format.proofs.part_laws.missing_field_is_refused.Goals as goal

pub returns : goal.returns
returns c = missing_field
