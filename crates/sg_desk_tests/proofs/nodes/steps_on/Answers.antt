use Rattle.sg_desk_tests.proofs.Loads.{ended-on, moved-on}
use Rattle.sg_desk_tests.proofs.nodes.steps_on.Goals as goal

pub returns-in-Moved : goal.returns-in-Moved
returns-in-Moved c = moved-on _ c.args.desk.now.pivots c.args.desk.now.loads c.step.new.self.loads 2 c.requires c.in-Moved.ensures.step

pub returns-in-Ended : goal.returns-in-Ended
returns-in-Ended c = ended-on _ c.args.desk.now.pivots c.args.desk.now.loads c.step.new.self.loads 2 c.requires c.in-Ended.ensures.step
