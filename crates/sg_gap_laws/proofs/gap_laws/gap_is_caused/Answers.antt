use Rattle.sg_gap_laws.proofs.Caused.{gap_is_caused}
use Rattle.sg_gap_laws.proofs.gap_laws.gap_is_caused.Goals as goal

pub returns : goal.returns
returns c = gap_is_caused
