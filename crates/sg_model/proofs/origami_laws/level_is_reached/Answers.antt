use Rattle.sg_model.proofs.Levels.{level_reached}
use Rattle.sg_model.proofs.origami_laws.level_is_reached.Goals as goal

pub returns : goal.returns
returns c = λ g o num den why w k is_k. let r = level_reached g o num den why w k is_k in (r.0, r.1.from_one, r.1.in_range, r.1.enough)
