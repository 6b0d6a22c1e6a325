use Rattle.std.proofs.Common.{arith}
use Rattle.sg_check.proofs.value.worth_of.Goals as goal

pub table_worth-requires-clause-table : goal.table_worth-requires-clause-table
table_worth-requires-clause-table c = λ some. absurd (omega (arith, some))
