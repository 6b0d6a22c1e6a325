use Rattle.sg_bounds.proofs.Verdicts.{refusal_is_one}
use Rattle.sg_bounds.proofs.check_laws.refusal_is_one.Goals as goal

pub returns : goal.returns
returns c = refusal_is_one
