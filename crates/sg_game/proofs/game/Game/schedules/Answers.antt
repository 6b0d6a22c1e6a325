use Rattle.std.proofs.Common.{arith, rules}
use Rattle.sg_game.proofs.Promises.{goals_few}
use Rattle.sg_game.proofs.game.Game.schedules.Goals as goal

pub overflow_cast-result : goal.overflow_cast-result
overflow_cast-result c = let few = goals_few _ c.self.invariant.game in let n = c.len.ensures in search rules

pub returns-in-Some-clause-few : goal.returns-in-Some-clause-few
returns-in-Some-clause-few c = let few = goals_few _ c.self.invariant.game in let n = c.len.ensures in omega (arith, few, n)
