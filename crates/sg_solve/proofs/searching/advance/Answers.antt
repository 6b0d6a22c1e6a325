use Rattle.std.proofs.Common.{◌≡◌}
use Rattle.sg_solve.proofs.Advanced.{goes-fewer, goes-on}
use Rattle.sg_solve.proofs.searching.advance.Goals as goal

pub event-requires : goal.event-requires
event-requires c = c.requires.under_way.together

pub returns-in_ok-_outcome-in-Some-clause-under_way : goal.returns-in_ok-_outcome-in-Some-clause-under_way
returns-in_ok-_outcome-in-Some-clause-under_way c =
    let x = c.in_ok-_outcome-in-Some.ensures in
    goes-on c.args.game.now c.promises.ensures c.args.budget.now c.args.order.now c.args.selection.now c.named.new.selection c.args.lanes.now c.event.new.self c.args.desk.now c.event.new.work c.in-Some.e _ c.requires.under_way
    c.in-Some.ensures.selects x.together x.task (λ lane l is at going. x.ends lane l is at going) x.sound x.loads x.tests x.most x.answers

pub returns-in_ok-_outcome-in-Some-clause-fewer : goal.returns-in_ok-_outcome-in-Some-clause-fewer
returns-in_ok-_outcome-in-Some-clause-fewer c = λ _.
    let x = c.in_ok-_outcome-in-Some.ensures in
    goes-fewer c.args.game.now c.promises.ensures c.args.budget.now c.args.order.now c.args.selection.now c.named.new.selection c.args.lanes.now c.event.new.self c.args.desk.now c.event.new.work c.in-Some.e _ c.requires.under_way
    c.in-Some.ensures.selects x.together x.task (λ lane l is at going. x.ends lane l is at going) x.sound x.loads x.tests x.most x.answers
