use Rattle.sg_report_laws.proofs.LineExamples.{worked}
use Rattle.sg_report_laws.proofs.order_laws.lines_are_worked.Goals as goal

pub returns : goal.returns
returns c = worked
