use Rattle.sg_cli.proofs.WorkedRuns.{worked_checks}
use Rattle.sg_cli.proofs.laws.checks_are_worked.Goals as goal

pub returns : goal.returns
returns c = worked_checks
