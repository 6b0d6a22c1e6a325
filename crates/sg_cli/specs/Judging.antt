-- What the commands that judge a report on a game read: GAME and REPORT.
use Rattle.std.specs.Prelude.{ℕ, List, [], ◌∷◌}
use Rattle.sg_model.specs.Games.{Game}
use Rattle.sg_tree.specs.declared.report.Report.{Report}
use Rattle.sg_bounds.specs.Accepted.{IsAccepted}
use Rattle.sg_bounds.specs.Checking.{IsRefused}
use Rattle.sg_bounds.specs.ReportLaws.{Means}
use Rattle.sg_cli.specs.Inputs.{Content, game, game_file, report, report_file}
use Rattle.sg_cli.specs.Commands.{Plan}
use Rattle.sg_cli.specs.declared.refusal.CommandRefusal.{CommandRefusal}
use Rattle.sg_cli.specs.declared.refusal.CommandRefusal.TheVariants.{ReportWrong}

-- a report that is accepted for the game
pub record IsJudged (g : Game) (r : Report) : Type 0 where
  pub accepted : IsAccepted g r
  -- which alone means that its tickets are legal and have exactly the printed value, that no commitment has more than its
  -- upper bound, and that the tickets are optimal where it says that its bounds meet
  pub means : Means g r

-- a game is taken, and a report where it is accepted for it
abbrev pub takes_accepted : List Content → Type 0
takes_accepted [] = Unit {0}
takes_accepted (game g ∷ []) = Unit {0}
takes_accepted (game g ∷ report r ∷ []) = IsJudged g r
takes_accepted _ = ⊥

-- or else the first test that fails has this line and reason
abbrev pub refuses_wrong : List Content → CommandRefusal → Type 0
refuses_wrong (game g ∷ report r ∷ []) (ReportWrong line reason) = IsRefused g r line reason
refuses_wrong _ _ = ⊥

-- the plan
abbrev pub judging : List ℕ → List ℕ → Plan
judging name named = record { inputs = game_file name ∷ report_file named ∷ []; takes = takes_accepted; refuses = refuses_wrong }
