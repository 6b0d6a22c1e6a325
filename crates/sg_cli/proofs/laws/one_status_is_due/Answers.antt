use Rattle.sg_cli.proofs.CommandStatus.{one_status}
use Rattle.sg_cli.proofs.laws.one_status_is_due.Goals as goal

pub returns : goal.returns
returns c = one_status
