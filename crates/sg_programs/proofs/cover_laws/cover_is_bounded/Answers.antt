use Rattle.sg_programs.proofs.CoverSized.{cover_is_bounded}
use Rattle.sg_programs.proofs.cover_laws.cover_is_bounded.Goals as goal

pub returns : goal.returns
returns c = cover_is_bounded
