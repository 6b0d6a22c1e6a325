use Rattle.sg_gap_laws.proofs.Ample.{enough_leaves_wide}
use Rattle.sg_gap_laws.proofs.enough_laws.enough_leaves_wide.Goals as goal

pub returns : goal.returns
returns c = enough_leaves_wide
