use Rattle.sg_format.proofs.SingleChanges.{single_change}
use Rattle.sg_format.proofs.part_laws.single_change_agrees.Goals as goal

pub returns : goal.returns
returns c = single_change
