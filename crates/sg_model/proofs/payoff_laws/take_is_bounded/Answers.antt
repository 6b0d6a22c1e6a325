use Rattle.sg_model.proofs.Payoffs.{take-bounded}
use Rattle.sg_model.proofs.payoff_laws.take_is_bounded.Goals as goal

pub returns : goal.returns
returns c = take-bounded
