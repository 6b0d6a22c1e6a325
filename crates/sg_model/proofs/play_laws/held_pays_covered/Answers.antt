use Rattle.sg_model.proofs.Held.{held-pays, unheld-pays}
use Rattle.sg_model.proofs.play_laws.held_pays_covered.Goals as goal

pub returns : goal.returns
returns c = λ g s l play t. (held-pays g s l play t, unheld-pays g s l play t)
