use Rattle.std.proofs.Common.{◌++◌}
use Rattle.sg_bounds.specs.Checking.{ticket_stops}
use Rattle.sg_check.specs.Parts.{total_stops, worth_stops}
use Rattle.sg_check.proofs.Joined.{answers-then, refuses-behind, refuses-then}
use Rattle.sg_check.proofs.checking.test_opening.Goals as goal

pub returns-in-Ok-test_total : goal.returns-in-Ok-test_total
returns-in-Ok-test_total c =
    let g = c.args.game.now in
    let r = c.args.report.now in
    let plays = ticket_stops 3 r.tickets.tickets in
    answers-then g r plays (total_stops ++ worth_stops r) c.test_value.result c.in-Ok.ensures (answers-then g r total_stops (worth_stops r) c.test_value.result c.in-Ok-test_total.ensures c.test_value.ensures)

pub returns-in-Err-test_total : goal.returns-in-Err-test_total
returns-in-Err-test_total c =
    let g = c.args.game.now in
    let r = c.args.report.now in
    refuses-behind g r (ticket_stops 3 r.tickets.tickets) (total_stops ++ worth_stops r) c.in-Err-test_total.refusal c.in-Ok.ensures (refuses-then g r total_stops (worth_stops r) c.in-Err-test_total.refusal c.in-Err-test_total.ensures)

pub returns-in-Err : goal.returns-in-Err
returns-in-Err c =
    let r = c.args.report.now in
    refuses-then c.args.game.now r (ticket_stops 3 r.tickets.tickets) (total_stops ++ worth_stops r) c.in-Err.refusal c.in-Err.ensures
