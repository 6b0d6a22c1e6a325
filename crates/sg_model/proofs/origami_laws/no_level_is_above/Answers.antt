use Rattle.sg_model.proofs.Tickets.{no_level_above}
use Rattle.sg_model.proofs.origami_laws.no_level_is_above.Goals as goal

pub returns : goal.returns
returns c = λ g o num den why w k is_k tickets. no_level_above g o num den w.positive k is_k tickets
