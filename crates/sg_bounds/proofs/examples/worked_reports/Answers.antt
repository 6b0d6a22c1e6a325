use Rattle.sg_bounds.proofs.Worked.{worked_reports}
use Rattle.sg_bounds.proofs.examples.worked_reports.Goals as goal

pub returns : goal.returns
returns c = worked_reports
