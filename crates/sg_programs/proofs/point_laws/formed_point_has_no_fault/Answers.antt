use Rattle.sg_programs.proofs.PlayPoints.{formed_point_has_no_fault}
use Rattle.sg_programs.proofs.point_laws.formed_point_has_no_fault.Goals as goal

pub returns : goal.returns
returns c = formed_point_has_no_fault
