use Rattle.sg_report_laws.proofs.PartFaults.{part_faults_say}
use Rattle.sg_report_laws.proofs.part_laws.part_faults_say.Goals as goal

pub returns : goal.returns
returns c = part_faults_say
