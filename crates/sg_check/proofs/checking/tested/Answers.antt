use Rattle.sg_check.specs.Parts.{closing_stops, opening_stops}
use Rattle.sg_check.proofs.Joined.{answers-then, opened, refuses-then, refuses-opened}
use Rattle.sg_check.proofs.checking.tested.Goals as goal

pub returns-in-Ok : goal.returns-in-Ok
returns-in-Ok c =
    let g = c.args.game.now in
    let r = c.args.report.now in
    opened g r c.test_closing.result (answers-then g r (opening_stops r) (closing_stops g r) c.test_closing.result c.in-Ok.ensures c.test_closing.ensures)

pub returns-in-Err : goal.returns-in-Err
returns-in-Err c =
    let g = c.args.game.now in
    let r = c.args.report.now in
    refuses-opened g r c.in-Err.refusal (refuses-then g r (opening_stops r) (closing_stops g r) c.in-Err.refusal c.in-Err.ensures)
