use Rattle.sg_gap_laws.proofs.Reached.{value_is_below}
use Rattle.sg_gap_laws.proofs.gap_laws.value_is_below.Goals as goal

pub returns : goal.returns
returns c = value_is_below
