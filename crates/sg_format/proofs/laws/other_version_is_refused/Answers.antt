use Rattle.sg_format.proofs.Faults.{other_version}
use Rattle.sg_format.proofs.laws.other_version_is_refused.Goals as goal

pub returns : goal.returns
returns c = other_version
