use Rattle.sg_programs.proofs.Sized.{program_is_sized}
use Rattle.sg_programs.proofs.laws.program_is_sized.Goals as goal

pub returns : goal.returns
returns c = program_is_sized
