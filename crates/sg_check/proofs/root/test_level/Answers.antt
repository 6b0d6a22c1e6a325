use Rattle.sg_bounds.specs.Checking.{root_line}
use Rattle.sg_check.proofs.Wetted.{water-passes}
use Rattle.sg_check.proofs.root.test_level.Goals as goal

pub returns-in-Ok : goal.returns-in-Ok
returns-in-Ok c = water-passes c.args.game.now c.args.report.now (root_line c.args.report.now) c.args.line c.saturating_add.result c.stated_value.result c.in-Ok.bound c.raised.result c.requires.line c.requires.scaled c.saturating_add.ensures c.stated_value.ensures.value c.stated_value.ensures.reduced c.in-Ok.ensures c.raised.ensures

pub returns-in-Err : goal.returns-in-Err
returns-in-Err c = c.in-Err.ensures
