use Rattle.sg_programs.proofs.Kept.{zeros_change_nothing}
use Rattle.sg_programs.proofs.laws.zeros_change_nothing.Goals as goal

pub returns : goal.returns
returns c = zeros_change_nothing
