use Rattle.sg_format.proofs.Programs.{programs}
use Rattle.sg_format.proofs.part_laws.long_program_is_refused.Goals as goal

pub returns : goal.returns
returns c = programs
