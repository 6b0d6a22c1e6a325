use Rattle.sg_model.proofs.Tickets.{best-at-level}
use Rattle.sg_model.proofs.origami_laws.level_is_best.Goals as goal

pub returns : goal.returns
returns c = λ g o num den why w k is_k tickets. best-at-level g o num den w.positive k is_k tickets why w
