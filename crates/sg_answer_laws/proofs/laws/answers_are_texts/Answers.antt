use Rattle.sg_answer_laws.proofs.Reports.{answers_are_texts}
use Rattle.sg_answer_laws.proofs.laws.answers_are_texts.Goals as goal

pub returns : goal.returns
returns c = answers_are_texts
