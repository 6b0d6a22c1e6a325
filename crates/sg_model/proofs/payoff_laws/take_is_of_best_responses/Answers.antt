use Rattle.sg_model.proofs.Best.{take_of-is_take, is_take-one}
use Rattle.sg_model.proofs.payoff_laws.take_is_of_best_responses.Goals as goal

pub returns : goal.returns
returns c = λ g k l some. (take_of-is_take g k l some, is_take-one g k l some)
