use Rattle.sg_report_laws.proofs.Faults.{early_end}
use Rattle.sg_report_laws.proofs.fault_laws.early_end.Goals as goal

pub returns : goal.returns
returns c = early_end
