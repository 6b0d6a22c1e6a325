use Rattle.sg_cert.proofs.WholeBack.{whole_forth}
use Rattle.sg_cert.proofs.laws.read_is_text.Goals as goal

pub returns : goal.returns
returns c = whole_forth
