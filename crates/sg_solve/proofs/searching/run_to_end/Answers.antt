use Rattle.std.proofs.Common.{Ok, ap}
use Rattle.sg_solve.proofs.searching.run_to_end.Goals as goal

pub returns-clause-end : goal.returns-clause-end
returns-clause-end c = c.in_ok-advance.ensures.end (ap Ok c.if-branch.false)
