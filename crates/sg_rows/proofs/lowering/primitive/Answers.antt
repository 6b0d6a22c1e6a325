use Rattle.std.proofs.Common.{arith}
use Rattle.sg_rows.proofs.Commons.{large_lowest, small_lowest, small_quotients}
use Rattle.sg_rows.proofs.lowering.primitive.Goals as goal

pub returns-then-common-gt1-clause-lowest : goal.returns-then-common-gt1-clause-lowest
returns-then-common-gt1-clause-lowest c = large_lowest c.common_divisor-common.result c.args.row.now c.divide.new.row c.common_divisor-common.ensures (omega arith) c.divide.ensures

pub returns-else-common-gt1-clause-quotients : goal.returns-else-common-gt1-clause-quotients
returns-else-common-gt1-clause-quotients c = small_quotients c.common_divisor-common.result c.args.row.now c.common_divisor-common.ensures (omega arith)

pub returns-else-common-gt1-clause-lowest : goal.returns-else-common-gt1-clause-lowest
returns-else-common-gt1-clause-lowest c = small_lowest c.common_divisor-common.result c.args.row.now c.common_divisor-common.ensures (omega arith)
