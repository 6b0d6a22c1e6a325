use Rattle.sg_answer_laws.proofs.WorkedAnswers.{worked_answers}
use Rattle.sg_answer_laws.proofs.examples.worked_answers.Goals as goal

pub returns : goal.returns
returns c = worked_answers
