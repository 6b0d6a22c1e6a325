use Rattle.sg_bounds.proofs.SizeBounds.{column_sums}
use Rattle.sg_bounds.proofs.size_laws.column_sums_are_small.Goals as goal

pub returns : goal.returns
returns c = column_sums
