use Rattle.sg_model.proofs.Promises.{pay_a-in_range, pay_d-in_range, payoff-in_range}
use Rattle.sg_model.proofs.game_laws.payoffs_are_in_range.Goals as goal

pub returns : goal.returns
returns c = λ g h. record { listed = payoff-in_range g h; defender = pay_d-in_range g h; attacker = pay_a-in_range g h }
