use Rattle.std.proofs.Common.{arith, length, ap}
use Rattle.sg_plays_fact.proofs.Few.{choices_few}
use Rattle.sg_plays_fact.proofs.search.choices.Goals as goal

pub overflow_cast-result : goal.overflow_cast-result
overflow_cast-result c = omega (arith, choices_few c.args.game.now c.promises.ensures c.args.r, ap length c.resource_schedules.ensures.list)

pub returns-clause-few : goal.returns-clause-few
returns-clause-few c = omega (arith, choices_few c.args.game.now c.promises.ensures c.args.r, ap length c.resource_schedules.ensures.list)
