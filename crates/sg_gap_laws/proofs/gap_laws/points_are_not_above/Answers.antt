use Rattle.sg_gap_laws.proofs.Reached.{points_are_not_above}
use Rattle.sg_gap_laws.proofs.gap_laws.points_are_not_above.Goals as goal

pub returns : goal.returns
returns c = points_are_not_above
