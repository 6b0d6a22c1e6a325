use Rattle.std.proofs.Common.{arith, rules}
use Rattle.sg_words.specs.Commands.{solve}
use Rattle.sg_words.proofs.Searched.{eight, texts_exceed, texts_lack}
use Rattle.sg_words.proofs.commands.solve.Goals.{in_default-via-then-arguments-lt8, in_default-via-else-arguments-lt8+else-arguments-lt9}
use Rattle.sg_words.proofs.commands.solve.Goals as goal

pub returns-in-len8 : goal.returns-in-len8
returns-in-len8 c =
    eight solve c.args.arguments.now (search rules) (search rules) _ _ _ _ _ _ _ c.number.ensures c.number-in-len8.ensures c.number-in-len8-2.ensures c.walk.ensures c.lanes.ensures c.number-in-len8-3.ensures c.family.ensures

pub returns-in_default : goal.returns-in_default
returns-in_default c =
    elim c.in_default.branch [
      | in_default-via-then-arguments-lt8 w ↦ texts_lack solve c.args.arguments.now (search rules)
      | in_default-via-else-arguments-lt8+else-arguments-lt9 w ↦ texts_exceed solve c.args.arguments.now (search rules)
    ]
