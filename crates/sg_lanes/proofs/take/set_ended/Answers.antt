use Rattle.std.proofs.Common.{◌∙◌, ◌-◌}
use Rattle.sg_lanes.proofs.Lanewise.{ended-again}
use Rattle.sg_lanes.proofs.take.set_ended.Goals as goal

pub returns-in-Some : goal.returns-in-Some
returns-in-Some c = λ node e. ended-again c.args.lanes.now.items c.let_go.new.lanes.items (c.args.lane - 1) c.let_go.result c.in-Some.held node c.let_go.ensures.lanes c.in-Some.is (c.let_go.ensures.held ∙ e)
