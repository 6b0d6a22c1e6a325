use Rattle.sg_model.proofs.Held.{covers-held, held}
use Rattle.sg_model.proofs.play_laws.covers_where_held.Goals as goal

pub returns : goal.returns
returns c = λ g play t. (held g play t, covers-held g play t)
