use Rattle.sg_report_laws.proofs.Faults.{lines_before}
use Rattle.sg_report_laws.proofs.fault_laws.lines_before.Goals as goal

pub returns : goal.returns
returns c = lines_before
