use Rattle.sg_cli.proofs.WorkedRuns.{worked_limits}
use Rattle.sg_cli.proofs.laws.limits_are_worked.Goals as goal

pub returns : goal.returns
returns c = worked_limits
