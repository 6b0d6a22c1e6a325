use Rattle.sg_model.proofs.Filling.{fillable}
use Rattle.sg_origami.proofs.filling.water.Goals as goal

pub filling_of-requires : goal.filling_of-requires
filling_of-requires c = fillable c.args.game.now c.promises.ensures c.requires
