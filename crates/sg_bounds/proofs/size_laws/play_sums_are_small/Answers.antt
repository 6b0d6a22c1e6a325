use Rattle.sg_bounds.proofs.SizeBounds.{play_sums}
use Rattle.sg_bounds.proofs.size_laws.play_sums_are_small.Goals as goal

pub returns : goal.returns
returns c = play_sums
