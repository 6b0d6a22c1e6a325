use Rattle.sg_solve.proofs.Unique.{right_report_is_one}
use Rattle.sg_solve.proofs.laws.right_report_is_one.Goals as goal

pub returns : goal.returns
returns c = right_report_is_one
