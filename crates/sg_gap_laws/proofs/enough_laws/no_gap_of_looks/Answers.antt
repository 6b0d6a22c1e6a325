use Rattle.sg_gap_laws.proofs.Ample.{no_gap_of_looks}
use Rattle.sg_gap_laws.proofs.enough_laws.no_gap_of_looks.Goals as goal

pub returns : goal.returns
returns c = no_gap_of_looks
