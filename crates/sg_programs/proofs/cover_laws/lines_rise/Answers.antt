use Rattle.sg_programs.proofs.CoverFacts.{lines_rise}
use Rattle.sg_programs.proofs.cover_laws.lines_rise.Goals as goal

pub returns : goal.returns
returns c = lines_rise
