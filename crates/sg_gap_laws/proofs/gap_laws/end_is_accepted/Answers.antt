use Rattle.sg_gap_laws.proofs.Reached.{end_is_accepted}
use Rattle.sg_gap_laws.proofs.gap_laws.end_is_accepted.Goals as goal

pub returns : goal.returns
returns c = end_is_accepted
