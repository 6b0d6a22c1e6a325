use Rattle.sg_cli.proofs.Lengths.{short}
use Rattle.sg_cli.proofs.laws.right_reports_are_short.Goals as goal

pub returns : goal.returns
returns c = short
