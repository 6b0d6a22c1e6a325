use Rattle.std.proofs.Common.{arith}
use Rattle.sg_check.proofs.tree.pass_open.Goals as goal

pub returns : goal.returns
returns c = λ n bounds more shows so_far. record { best = c.raised.ensures bounds more so_far.best shows; next = omega (arith, so_far.next, c.saturating_add.ensures) }
