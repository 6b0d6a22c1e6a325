use Rattle.sg_gen.proofs.ShapeTexts.{texts-apart}
use Rattle.sg_gen.proofs.laws.texts_are_apart.Goals as goal

pub returns : goal.returns
returns c = texts-apart
