use Rattle.sg_walk.proofs.Best.{best-rises}
use Rattle.sg_walk.proofs.bounding.better.Goals as goal

pub returns-then-best-weight : goal.returns-then-best-weight
returns-then-best-weight c g ws covered schedules h known is = best-rises g ws covered schedules c.args.best c.args.schedule c.args.weight h known is c.if-best-weight.true
