-- That a game has one right report.
use Rattle.std.specs.Prelude.{◌≡◌, true}
use Rattle.sg_model.specs.Games.{Game}
use Rattle.sg_model.specs.Limits.{IsGame, is_scaled}
use Rattle.sg_tree.specs.declared.report.Report.{Report}
use Rattle.sg_solve.specs.Solutions.{IsOptimalReport}

-- two right reports on a game are the same, to the last ticket
abbrev pub RightReportIsOne : Type 0
RightReportIsOne = (g : Game) → IsGame g → is_scaled g ≡ true → (r s : Report) → IsOptimalReport g r → IsOptimalReport g s → r ≡ s
