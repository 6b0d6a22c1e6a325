use Rattle.sg_report_laws.proofs.Faults.{other_first_line}
use Rattle.sg_report_laws.proofs.fault_laws.other_first_line.Goals as goal

pub returns : goal.returns
returns c = other_first_line
