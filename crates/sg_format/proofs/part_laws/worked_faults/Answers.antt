use Rattle.sg_format.proofs.WorkedFaults.{worked}
use Rattle.sg_format.proofs.part_laws.worked_faults.Goals as goal

pub returns : goal.returns
returns c = worked
