use Rattle.sg_format.proofs.Faults.{not_toml}
use Rattle.sg_format.proofs.laws.not_toml_is_refused.Goals as goal

pub returns : goal.returns
returns c = not_toml
