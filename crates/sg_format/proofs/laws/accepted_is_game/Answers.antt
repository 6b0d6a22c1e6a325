use Rattle.sg_format.proofs.Accepted.{accepted}
use Rattle.sg_format.proofs.laws.accepted_is_game.Goals as goal

pub returns : goal.returns
returns c = accepted
