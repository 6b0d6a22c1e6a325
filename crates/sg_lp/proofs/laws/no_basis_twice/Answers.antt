use Rattle.sg_lp.proofs.Runs.{never_twice, run-rises}
use Rattle.sg_lp.proofs.laws.no_basis_twice.Goals as goal

pub returns : goal.returns
returns c = λ p s k m t u a b h. (run-rises p s k m t u a b h, never_twice p s k m t u a b h)
