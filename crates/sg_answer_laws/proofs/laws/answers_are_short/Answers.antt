use Rattle.sg_answer_laws.proofs.Shortness.{answers_are_short}
use Rattle.sg_answer_laws.proofs.laws.answers_are_short.Goals as goal

pub returns : goal.returns
returns c = answers_are_short
