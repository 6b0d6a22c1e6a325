use Rattle.sg_model.proofs.Tickets.{minimax}
use Rattle.sg_model.proofs.origami_laws.level_is_minimax.Goals as goal

pub returns : goal.returns
returns c = λ g o num den why w k is_k tickets other is_other. minimax g o num den w.positive k is_k tickets why w other is_other
