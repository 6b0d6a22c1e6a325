use Rattle.sg_programs.proofs.CoverSized.{cover_is_sized}
use Rattle.sg_programs.proofs.cover_laws.cover_is_sized.Goals as goal

pub returns : goal.returns
returns c = cover_is_sized
