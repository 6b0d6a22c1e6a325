use Rattle.sg_programs.proofs.CoverKeeps.{point_keeps_table}
use Rattle.sg_programs.proofs.cover_point_laws.point_keeps_table.Goals as goal

pub returns : goal.returns
returns c = point_keeps_table
