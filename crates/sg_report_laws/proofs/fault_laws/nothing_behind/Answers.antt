use Rattle.sg_report_laws.proofs.Faults.{nothing_behind}
use Rattle.sg_report_laws.proofs.fault_laws.nothing_behind.Goals as goal

pub returns : goal.returns
returns c = nothing_behind
