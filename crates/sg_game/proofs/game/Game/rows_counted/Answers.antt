use Rattle.std.proofs.Common.{arith}
use Rattle.sg_game.proofs.Promises.{goals_few}
use Rattle.sg_game.proofs.game.Game.rows_counted.Goals as goal

pub rows_of-requires-clause-few_goals : goal.rows_of-requires-clause-few_goals
rows_of-requires-clause-few_goals c = let few = goals_few _ c.self.invariant.game in let n = c.len.ensures in omega (arith, few, n)
