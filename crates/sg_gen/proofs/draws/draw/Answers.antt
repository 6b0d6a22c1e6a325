use Rattle.sg_gen.proofs.Words.{drawn}
use Rattle.sg_gen.proofs.draws.draw.Goals as goal

pub returns : goal.returns
returns c = λ seed k room e. drawn seed k c.next_word.result c.args.rng.now c.next_word.new.self room c.next_word.ensures e
