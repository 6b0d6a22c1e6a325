use Rattle.std.proofs.Common.{arith, ap, length}
use Rattle.sg_split.proofs.Singles.{choices_few}
use Rattle.sg_split.proofs.serving.choices.Goals as goal

pub returns-clause-few : goal.returns-clause-few
returns-clause-few c = omega (arith, choices_few c.args.game.now c.promises.ensures c.requires.single.security c.args.r, ap length c.resource_schedules.ensures.list)
