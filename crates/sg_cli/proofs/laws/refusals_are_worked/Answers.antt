use Rattle.sg_cli.proofs.WorkedRuns.{worked_refusals}
use Rattle.sg_cli.proofs.laws.refusals_are_worked.Goals as goal

pub returns : goal.returns
returns c = worked_refusals
