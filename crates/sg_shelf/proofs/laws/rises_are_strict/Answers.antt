use Rattle.sg_shelf.proofs.Rises.{rises_are_strict}
use Rattle.sg_shelf.proofs.laws.rises_are_strict.Goals as goal

pub returns : goal.returns
returns c = rises_are_strict
