use Rattle.sg_game.proofs.Promises.{patrols_few}
use Rattle.sg_game.proofs.game.Game.resources.Goals as goal

pub returns-in-Some-clause-few : goal.returns-in-Some-clause-few
returns-in-Some-clause-few c = patrols_few _ c.self.invariant.game _ c.in-Some.is
