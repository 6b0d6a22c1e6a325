use Rattle.sg_programs.proofs.CoverReaches.{no_cover_means_empty}
use Rattle.sg_programs.proofs.cover_point_laws.no_cover_means_empty.Goals as goal

pub returns : goal.returns
returns c = no_cover_means_empty
