use Rattle.sg_bounds.proofs.Answering.{each_is_answered}
use Rattle.sg_bounds.proofs.check_laws.each_is_answered.Goals as goal

pub returns : goal.returns
returns c = each_is_answered
