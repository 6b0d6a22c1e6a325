use Rattle.sg_report_laws.proofs.Faults.{fault_of_its_line}
use Rattle.sg_report_laws.proofs.fault_laws.fault_of_its_line.Goals as goal

pub returns : goal.returns
returns c = fault_of_its_line
