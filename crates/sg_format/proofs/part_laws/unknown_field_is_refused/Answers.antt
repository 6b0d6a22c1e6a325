use Rattle.sg_format.proofs.PartReasons.{unknown_field}
use Rattle.sg_format.proofs.part_laws.unknown_field_is_refused.Goals as goal

pub returns : goal.returns
returns c = unknown_field
