use Rattle.sg_desk.proofs.Laned.{new-view}
use Rattle.sg_desk.proofs.desk.Desk.new.Goals as goal

pub returns : goal.returns
returns c = new-view c.args.game.now c.args.pivots c.args.looks c.args.lanes c.in_ok-runs.runs.items c.in_ok-runs.ensures
