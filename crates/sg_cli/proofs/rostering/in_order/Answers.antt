use Rattle.sg_cli.proofs.RosterStops.{has_order, not_long}
use Rattle.sg_cli.proofs.rostering.in_order.Goals as goal

pub returns-in-Ok-clause-ok : goal.returns-in-Ok-clause-ok
returns-in-Ok-clause-ok c =
    let few = not_long _ c.commitment_of-tickets.result.total c.in-Ok.days c.roster.result c.roster.ensures.long c.in-Ok.is in
    has_order c.args.pair.game c.args.pair.report c.args.seed c.commitment_of-tickets.result c.in-Ok.days.items c.commitment_of-tickets.ensures c.requires.accepted few c.in-Ok.ensures.days c.in-Ok.ensures.known
    c.in-Ok.ensures.permutation
