use Rattle.sg_bounds.proofs.Verdicts.{passing_is_acceptance}
use Rattle.sg_bounds.proofs.check_laws.passing_is_acceptance.Goals as goal

pub returns : goal.returns
returns c = passing_is_acceptance
