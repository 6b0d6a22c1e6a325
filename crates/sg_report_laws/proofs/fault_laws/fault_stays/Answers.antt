use Rattle.sg_report_laws.proofs.Faults.{fault_stays}
use Rattle.sg_report_laws.proofs.fault_laws.fault_stays.Goals as goal

pub returns : goal.returns
returns c = fault_stays
