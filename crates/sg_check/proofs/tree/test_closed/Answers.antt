use Rattle.sg_check.proofs.Walked.{fact-passes}
use Rattle.sg_check.proofs.tree.test_closed.Goals as goal

pub returns-in-Ok : goal.returns-in-Ok
returns-in-Ok c = λ base. fact-passes c.args.game.now c.args.report.now c.args.acts.now c.args.fact.now base c.args.top.now c.in-Ok.bound c.lines_of.result c.saturating_add.result c.raised.result c.in-Ok.ensures c.lines_of.ensures c.saturating_add.ensures c.raised.ensures
