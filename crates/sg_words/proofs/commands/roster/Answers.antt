use Rattle.std.proofs.Common.{arith, rules}
use Rattle.sg_words.specs.Commands.{roster}
use Rattle.sg_words.proofs.Numbered.{too_few, too_many}
use Rattle.sg_words.proofs.commands.roster.Goals.{in_default-via-then-arguments-lt3, in_default-via-else-arguments-lt3+else-arguments-lt4}
use Rattle.sg_words.proofs.commands.roster.Goals as goal

pub returns-in_default : goal.returns-in_default
returns-in_default c =
    elim c.in_default.branch [
      | in_default-via-then-arguments-lt3 w ↦ too_few roster c.args.arguments.now (search rules)
      | in_default-via-else-arguments-lt3+else-arguments-lt4 w ↦ too_many roster c.args.arguments.now (search rules)
    ]
