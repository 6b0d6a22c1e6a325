use Rattle.sg_cert.proofs.WholeAgain.{whole_again}
use Rattle.sg_cert.proofs.laws.text_reads_back.Goals as goal

pub returns : goal.returns
returns c = whole_again
