use Rattle.sg_game.proofs.Sound.{fault_of-none}
use Rattle.sg_game.proofs.laws.no_fault_is_a_game.Goals as goal

pub returns : goal.returns
returns c = fault_of-none
