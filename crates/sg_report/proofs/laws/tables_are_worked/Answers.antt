use Rattle.sg_report.proofs.Facts as facts
use Rattle.sg_report.proofs.laws.tables_are_worked.Goals as goal

pub returns : goal.returns
returns c = facts.tables_are_worked
