use Rattle.std.proofs.Common.{Err, refl, ap, inr}
use Rattle.sg_cli.proofs.RosterStops.{cut_short}
use Rattle.sg_cli.proofs.rostering.roster_named.Goals as goal

pub returns-in-Err-Failed-clause-err : goal.returns-in-Err-Failed-clause-err
returns-in-Err-Failed-clause-err g c =
    let o = c.in-Ok.ordered in (
      c.in-Err-Failed.ensures.failed (ap Err c.in-Err-Failed.field-0-is),
      cut_short _ c.args.name.now c.args.report.now c.args.seed _ _ o.game o.tickets o.days.items c.in-Ok.ensures.ok _ _ c.deref.result.now c.deref.ensures.value c.in-Err-Failed.ensures.front,
    )

pub returns-clause-err : goal.returns-clause-err
returns-clause-err g c =
    let o = c.in-Ok.ordered in
    inr (refl, cut_short _ c.args.name.now c.args.report.now c.args.seed _ _ o.game o.tickets o.days.items c.in-Ok.ensures.ok _ _ c.deref.result.now c.deref.ensures.value c.in-Err-Memory.ensures.front)
