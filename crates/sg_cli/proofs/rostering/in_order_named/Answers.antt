use Rattle.sg_cli.proofs.RosterStops.{roster_of, stops_so}
use Rattle.sg_cli.proofs.rostering.in_order_named.Goals as goal

pub returns-in-Err-clause-err : goal.returns-in-Err-clause-err
returns-in-Err-clause-err g c = stops_so _ c.args.name.now c.args.report.now _ _ c.in-Err.refusal c.in-Err.ensures.err

pub returns-in-Ok-in_order-clause-ok : goal.returns-in-Ok-in_order-clause-ok
returns-in-Ok-in_order-clause-ok g c =
    let o = c.in-Ok-in_order.ordered in
    roster_of _ c.args.name.now c.args.report.now c.args.seed _ _ c.in-Ok.pair.game c.in-Ok.pair.report o.game o.tickets o.days.items c.in-Ok.ensures.ok c.in-Ok-in_order.ensures.ok
