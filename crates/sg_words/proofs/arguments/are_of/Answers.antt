use Rattle.std.proofs.Common.{sym}
use Rattle.sg_words.specs.Kinds.{kind_written}
use Rattle.sg_words.proofs.Loops.{are_of-lengths}
use Rattle.sg_words.proofs.arguments.are_of.Goals as goal

pub returns-then-kinds-texts : goal.returns-then-kinds-texts
returns-then-kinds-texts c = sym (are_of-lengths kind_written (λ text. text.now) c.args.kinds.now c.args.texts.now c.if-kinds-texts.true)
