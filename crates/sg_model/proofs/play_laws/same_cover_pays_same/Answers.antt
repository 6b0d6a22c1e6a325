use Rattle.sg_model.proofs.Held.{same_cover}
use Rattle.sg_model.proofs.play_laws.same_cover_pays_same.Goals as goal

pub returns : goal.returns
returns c = same_cover
