use Rattle.sg_report.proofs.Facts as facts
use Rattle.sg_report.proofs.laws.table_is_one.Goals as goal

pub returns : goal.returns
returns c = facts.table_is_one
