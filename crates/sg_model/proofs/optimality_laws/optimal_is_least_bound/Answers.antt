use Rattle.sg_model.proofs.Values.{bound_above, optimal-bound}
use Rattle.sg_model.proofs.optimality_laws.optimal_is_least_bound.Goals as goal

pub returns : goal.returns
returns c = λ g is k is_k best num den is_value. (optimal-bound g k is_k best num den is_value, λ a b bound. bound_above g is a b bound k is_k num den is_value)
