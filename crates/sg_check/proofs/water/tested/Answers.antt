use Rattle.std.proofs.Common.{refl}
use Rattle.sg_check.proofs.Watered.{water-bounding}
use Rattle.sg_model.proofs.Filling.{fillable}
use Rattle.sg_check.proofs.water.tested.Goals as goal

pub small_bound-requires-clause-fillable : goal.small_bound-requires-clause-fillable
small_bound-requires-clause-fillable c = fillable c.args.game.now c.promises.ensures c.requires

pub small_bound-requires-clause-bounding : goal.small_bound-requires-clause-bounding
small_bound-requires-clause-bounding c =
    let g = c.args.game.now in
    (water-bounding g c.promises.ensures (fillable g c.promises.ensures c.requires) c.args.level.now.num c.args.level.now.den c.den-lowest.ensures.reduced c.args.reason.now (c.if-is_level.ensures.0 refl)).0

pub small_bound-requires-clause-some : goal.small_bound-requires-clause-some
small_bound-requires-clause-some c =
    let g = c.args.game.now in
    (water-bounding g c.promises.ensures (fillable g c.promises.ensures c.requires) c.args.level.now.num c.args.level.now.den c.den-lowest.ensures.reduced c.args.reason.now (c.if-is_level.ensures.0 refl)).1
