use Rattle.sg_lp.proofs.Runs.{run-one, run-state}
use Rattle.sg_lp.proofs.laws.run_is_one.Goals as goal

pub returns : goal.returns
returns c = λ p s k t u a b. (run-state p s k t a, run-one p s k t u a b)
