use Rattle.sg_model.proofs.Scaled.{commitment-scaled, commitment-from_scaled, optimal-scaled, optimal-from_scaled, value-scaled, value-from_scaled}
use Rattle.sg_model.proofs.optimality_laws.scaling_keeps.Goals as goal

pub returns : goal.returns
returns c = λ g m h k. (
  (commitment-scaled g m h k, commitment-from_scaled g m h k),
  λ num den. (value-scaled g m h k num den, value-from_scaled g m h k num den),
  (optimal-scaled g m h k, optimal-from_scaled g m h k),
)
