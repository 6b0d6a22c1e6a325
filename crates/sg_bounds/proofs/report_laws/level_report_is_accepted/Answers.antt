use Rattle.sg_bounds.proofs.Waters.{level_accepted}
use Rattle.sg_bounds.proofs.report_laws.level_report_is_accepted.Goals as goal

pub returns : goal.returns
returns c = level_accepted
