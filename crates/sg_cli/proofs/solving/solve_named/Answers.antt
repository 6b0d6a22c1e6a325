use Rattle.std.proofs.Common.{refl}
use Rattle.sg_cli.specs.Solving.{solving}
use Rattle.sg_cli.proofs.Progress.{fails_by}
use Rattle.sg_cli.proofs.SolvingStatus.{put_solution, written_solution}
use Rattle.sg_cli.proofs.solving.solve_named.Goals as goal

pub returns-in-Err-clause-err : goal.returns-in-Err-clause-err
returns-in-Err-clause-err g c = fails_by _ (solving c.args.name.now c.args.budget.now c.args.order.now) _ _ _ c.in-Err.refusal c.in-Err.ensures.err

pub returns-in-Ok-write_report-clause-ok : goal.returns-in-Ok-write_report-clause-ok
returns-in-Ok-write_report-clause-ok g c =
    put_solution _ c.args.name.now c.args.budget.now c.args.order.now _ _ c.in-Ok.report c.in-Ok.ensures.ok _ _ _ c.yes_status.ensures c.in-Ok-write_report.ensures.whole

pub returns-clause-err : goal.returns-clause-err
returns-clause-err g c = (
  c.in-Err-write_report.ensures.failed,
  record {
    status = _;
    text = _;
    writes = written_solution _ c.args.name.now c.args.budget.now c.args.order.now _ _ c.in-Ok.report c.in-Ok.ensures.ok _ refl;
    taken = c.in-Err-write_report.ensures.front;
  },
)
