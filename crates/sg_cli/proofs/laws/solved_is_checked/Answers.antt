use Rattle.sg_cli.proofs.Pairs.{solved_is_checked}
use Rattle.sg_cli.proofs.laws.solved_is_checked.Goals as goal

pub returns : goal.returns
returns c = solved_is_checked
