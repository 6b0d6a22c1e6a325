use Rattle.sg_split.proofs.Moments.{moment_legal, moments_cover, moments_weigh}
use Rattle.sg_split.proofs.laws.moments_cover_counts.Goals as goal

pub returns : goal.returns
returns c = λ g is counts tickets are. (moments_weigh g counts tickets are, moment_legal g is counts tickets are, moments_cover g counts tickets are)
