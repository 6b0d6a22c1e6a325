use Rattle.sg_model.proofs.Promises.{origami}
use Rattle.sg_model.proofs.game_laws.scale_means_origami.Goals as goal

pub returns : goal.returns
returns c = origami
