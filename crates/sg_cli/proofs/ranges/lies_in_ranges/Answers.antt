use Rattle.sg_cli.proofs.SmallNumbers.{answer_in}
use Rattle.sg_cli.proofs.ranges.lies_in_ranges.Goals as goal

pub returns : goal.returns
returns c =
    answer_in c.args.game.now c.promises.ensures c.args.budget.now c.args.order.now c.args.answer.now.report c.args.answer.now.worked c.requires
    c.sizes_of-sizes.ensures c.parts_of-value.ensures c.level_of-level.ensures
