use Rattle.sg_model.proofs.Payoffs.{bounded}
use Rattle.sg_model.proofs.payoff_laws.payoffs_are_bounded.Goals as goal

pub returns : goal.returns
returns c = bounded
