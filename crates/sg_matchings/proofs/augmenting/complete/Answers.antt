use Rattle.std.proofs.Common.{arith}
use Rattle.sg_matchings.proofs.Perfect.{perfect}
use Rattle.sg_matchings.proofs.augmenting.complete.Goals as goal

pub returns : goal.returns
returns c = perfect c.args.rows.now c.loop-column.matched c.loop-column.column (omega arith) c.loop-column.invariant
