use Rattle.sg_lp.proofs.Runs.{short-run}
use Rattle.sg_lp.proofs.laws.runs_are_short.Goals as goal

pub returns : goal.returns
returns c = short-run
