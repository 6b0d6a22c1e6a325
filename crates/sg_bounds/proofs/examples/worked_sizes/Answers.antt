use Rattle.sg_bounds.proofs.WorkedSizes.{worked_sizes}
use Rattle.sg_bounds.proofs.examples.worked_sizes.Goals as goal

pub returns : goal.returns
returns c = worked_sizes
