use Rattle.sg_bounds.proofs.Cover.{cover_plays}
use Rattle.sg_bounds.proofs.fact_laws.cover_is_plays.Goals as goal

pub returns : goal.returns
returns c = cover_plays
