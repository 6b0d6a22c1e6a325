use Rattle.sg_programs.proofs.CoverCounts.{point_has_counts}
use Rattle.sg_programs.proofs.cover_point_laws.point_has_counts.Goals as goal

pub returns : goal.returns
returns c = point_has_counts
