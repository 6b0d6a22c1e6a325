use Rattle.sg_model.proofs.Payoffs.{greatest-bound}
use Rattle.sg_model.proofs.payoff_laws.greatest_is_bound.Goals as goal

pub returns : goal.returns
returns c = greatest-bound
