use Rattle.sg_programs.proofs.Multiples.{common_divisor, common_multiple_is_least}
use Rattle.sg_programs.proofs.point_laws.multiples_are_least.Goals as goal

pub returns : goal.returns
returns c = record { divisor = common_divisor; multiple = common_multiple_is_least }
