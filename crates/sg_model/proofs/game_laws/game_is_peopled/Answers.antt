use Rattle.sg_model.proofs.Promises.{peopled}
use Rattle.sg_model.proofs.game_laws.game_is_peopled.Goals as goal

pub returns : goal.returns
returns c = peopled
