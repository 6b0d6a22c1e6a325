use Rattle.sg_bounds.proofs.Firsts.{first_is_one}
use Rattle.sg_bounds.proofs.check_laws.first_is_one.Goals as goal

pub returns : goal.returns
returns c = first_is_one
