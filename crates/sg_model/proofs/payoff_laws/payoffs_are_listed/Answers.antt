use Rattle.sg_model.proofs.Payoffs.{listed}
use Rattle.sg_model.proofs.payoff_laws.payoffs_are_listed.Goals as goal

pub returns : goal.returns
returns c = listed
