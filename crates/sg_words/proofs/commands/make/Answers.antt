use Rattle.std.proofs.Common.{rules}
use Rattle.sg_words.specs.Commands.{make}
use Rattle.sg_words.proofs.Numbered.{one_too_few, one_too_many}
use Rattle.sg_words.proofs.commands.make.Goals.{in_default-via-then-arguments-lt2, in_default-via-else-arguments-lt2+else-arguments-lt3}
use Rattle.sg_words.proofs.commands.make.Goals as goal

pub returns-in_default : goal.returns-in_default
returns-in_default c =
    elim c.in_default.branch [
      | in_default-via-then-arguments-lt2 w ↦ one_too_few make c.args.arguments.now (search rules)
      | in_default-via-else-arguments-lt2+else-arguments-lt3 w ↦ one_too_many make c.args.arguments.now (search rules)
    ]
