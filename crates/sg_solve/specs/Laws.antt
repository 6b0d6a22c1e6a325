-- What holds of every right report.
use Rattle.std.specs.Prelude.{◌+◌, ◌≤◌, length}
use Rattle.sg_model.specs.Games.{Game}
use Rattle.sg_tree.specs.declared.report.Report.{Report}
use Rattle.sg_solve.specs.Solutions.{IsOptimalReport}

-- a right report has at most one ticket more than the game has targets
abbrev pub RightTicketsAreFew : Type 0
RightTicketsAreFew = (g : Game) (r : Report) → IsOptimalReport g r → length r.tickets.tickets ≤ length g.goals + 1
