use Rattle.sg_matchings.proofs.WorkedTables.{tables_worked}
use Rattle.sg_matchings.proofs.laws.tables_are_worked.Goals as goal

pub returns : goal.returns
returns c = tables_worked
