use Rattle.std.proofs.Common.{sym}
use Rattle.sg_model.proofs.Joined.{same_cover_count, same_optimal, same_sum_a, same_sum_d, same_value, same_weight_total, same_worth}
use Rattle.sg_model.proofs.optimality_laws.same_mix_keeps.Goals as goal

pub returns : goal.returns
returns c = λ g k other same. (
  same_weight_total g k other same,
  same_cover_count g k other same,
  λ l a. (same_sum_d g k other same l a, same_sum_a g k other same l a),
  same_worth g k other same,
  λ num den. (same_value g k other same num den, same_value g other k (λ play. sym (same play)) num den),
  (same_optimal g k other same, same_optimal g other k (λ play. sym (same play))),
)
