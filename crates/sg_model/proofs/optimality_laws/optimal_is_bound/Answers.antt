use Rattle.sg_model.proofs.Values.{bound-optimal, optimal-bound}
use Rattle.sg_model.proofs.optimality_laws.optimal_is_bound.Goals as goal

pub returns : goal.returns
returns c = λ g k is_k num den is_value. (λ best. optimal-bound g k is_k best num den is_value, λ bound. bound-optimal g k is_k num den is_value bound)
