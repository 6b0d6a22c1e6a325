use Rattle.sg_bounds.proofs.Reports.{accepted_means}
use Rattle.sg_bounds.proofs.report_laws.accepted_means.Goals as goal

pub returns : goal.returns
returns c = accepted_means
