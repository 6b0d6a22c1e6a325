-- The command `show GAME REPORT`.
use Rattle.std.specs.Prelude.{◌≡◌, ℕ, false, List, [], ◌∷◌}
use Rattle.sg_model.specs.Games.{Game}
use Rattle.sg_tree.specs.declared.report.Report.{Report}
use Rattle.sg_report.specs.Tables.{IsReportTable}
use Rattle.sg_cli.specs.Inputs.{Content, game, report}
use Rattle.sg_cli.specs.Commands.{Command}
use Rattle.sg_cli.specs.Judging.{judging}

-- with success, whether the report's bounds meet or not
abbrev pub ends_shown : List Content → ℕ → Type 0
ends_shown (game g ∷ report r ∷ []) status = status ≡ 0
ends_shown _ status = ⊥

-- the table of the report is written
abbrev pub writes_table : List Content → ℕ → List ℕ → Type 0
writes_table (game g ∷ report r ∷ []) status text = IsReportTable g r.tickets.tickets r.upper text
writes_table _ status text = ⊥

-- the command
abbrev pub showing : List ℕ → List ℕ → Command
showing name named = record { plan = judging name named; ends = ends_shown; writes = writes_table; is_formed_late = false }
