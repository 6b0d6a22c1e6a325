use Rattle.sg_model.proofs.Tickets.{all-paid}
use Rattle.sg_model.proofs.origami_laws.level_is_least.Goals as goal

pub returns : goal.returns
returns c = λ g o num den why w k is_k tickets. all-paid g o num den w.positive k is_k tickets
