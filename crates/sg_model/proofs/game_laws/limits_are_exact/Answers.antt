use Rattle.sg_model.proofs.Edges.{exact}
use Rattle.sg_model.proofs.game_laws.limits_are_exact.Goals as goal

pub returns : goal.returns
returns c = exact
