use Rattle.sg_format.proofs.Texts.{worked_texts}
use Rattle.sg_format.proofs.laws.worked_texts.Goals as goal

pub returns : goal.returns
returns c = worked_texts
