use Rattle.std.proofs.Common.{◌-◌}
use Rattle.sg_walk.proofs.Marked.{none-at}
use Rattle.sg_walk.proofs.trail.Trail.new.Goals as goal

pub returns-clause-unmarked : goal.returns-clause-unmarked
returns-clause-unmarked c t = none-at 10000 (t - 1)
