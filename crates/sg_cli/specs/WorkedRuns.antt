-- Runs worked out by hand: the status and the line of each refusal, what told files decide at the edges of the limits, and
-- what `check` writes for reports whose answers are known.
use Rattle.std.specs.Prelude.{◌≡◌, ℕ, ◌+◌, ◌≤◌, List, [], ◌∷◌, length, codes, pos, Some, Ok, Err}
use Rattle.sg_model.specs.declared.fault.GameFault.{GameFault}
use Rattle.sg_model.specs.declared.fault.Place.{Place}
use Rattle.sg_model.specs.declared.fault.Place.TheVariants as places
use Rattle.sg_model.specs.Games.{Game}
use Rattle.sg_model.specs.Examples.{one_player}
use Rattle.sg_format.specs.GameFiles.{game_of_bytes}
use Rattle.sg_tree.specs.declared.report.Report.{Report}
use Rattle.sg_tree.specs.declared.report.Ending.TheVariants.{Optimal}
use Rattle.sg_cert.specs.declared.fault.ReportFault.{ReportFault}
use Rattle.sg_cert.specs.Reading.{report_of}
use Rattle.sg_bounds.specs.Examples.{first_fact, one_type_report, one_type_tree, over, reported, second_fact, spent_report, two_to_one}
use Rattle.sg_shelf.specs.Files.{Files, bytes_under}
use Rattle.sg_words.specs.Commands.{Asked, solve, check, show}
use Rattle.sg_words.specs.WorkedCommands.{usual_budget, usual_order}
use Rattle.sg_cli.specs.Inputs as inputs
use Rattle.sg_cli.specs.CommandList.{command_for}
use Rattle.sg_cli.specs.ExpectedStatus.{ExpectedStatus}
use Rattle.sg_cli.specs.Refusals.{status_of, line_of}
use Rattle.sg_cli.specs.declared.input.InputFault.TheVariants as faults
use Rattle.sg_cli.specs.declared.input.InputKind.TheVariants as kinds
use Rattle.sg_cli.specs.declared.refusal.CommandRefusal.TheVariants.{NotYet, ReportWrong, RosterTooLong, NoShape}
use Rattle.sg_cli.specs.declared.refusal.Refusal.{Refusal}
use Rattle.sg_cli.specs.declared.refusal.Refusal.TheVariants.{Words, NotRead, TooLong, Refused, Own, NotWritten, Memory}

-- it ends a run with this status, and is told by this line
abbrev pub IsToldExactly : Refusal → ℕ → List ℕ → Type 0
IsToldExactly refusal status line = (status_of refusal ≡ status) × (line_of refusal ≡ line)

-- a fault of a game with two digits in it
abbrev pub fault_at : Place → GameFault
fault_at place = record { reason = 10; place = place }

-- each refusal, with numbers where it has some
pub record WorkedRefusals : Type 0 where
  pub words : IsToldExactly Words 2 (codes "words refused\n")
  pub game_not_read : IsToldExactly (NotRead kinds.Game) 4 (codes "game not read\n")
  pub game_too_long : IsToldExactly (TooLong kinds.Game) 5 (codes "game too long\n")
  pub document : IsToldExactly (Refused (faults.Game (fault_at places.Document))) 6 (codes "game refused 10 at document\n")
  pub target : IsToldExactly (Refused (faults.Game (fault_at (places.Target 1)))) 6 (codes "game refused 10 at target 1\n")
  pub row : IsToldExactly (Refused (faults.Game (fault_at (places.Row 2)))) 6 (codes "game refused 10 at row 2\n")
  pub schedule : IsToldExactly (Refused (faults.Game (fault_at (places.Schedule 3)))) 6 (codes "game refused 10 at schedule 3\n")
  pub resource : IsToldExactly (Refused (faults.Game (fault_at (places.Resource 4)))) 6 (codes "game refused 10 at resource 4\n")
  pub attacker : IsToldExactly (Refused (faults.Game (fault_at (places.Attacker 5)))) 6 (codes "game refused 10 at type 5\n")
  pub not_yet : IsToldExactly (Own NotYet) 3 (codes "not yet\n")
  pub report_not_read : IsToldExactly (NotRead kinds.Report) 4 (codes "report not read\n")
  pub report_too_long : IsToldExactly (TooLong kinds.Report) 5 (codes "report too long\n")
  pub report_refused : IsToldExactly (Refused (faults.Report (record { line = 23; reason = 9 }))) 7 (codes "report refused 9 at line 23\n")
  pub report_wrong : IsToldExactly (Own (ReportWrong 18 6)) 7 (codes "no 6 at line 18\n")
  pub roster_too_long : IsToldExactly (Own (RosterTooLong (pos 1000001))) 8 (codes "roster too long 1000001\n")
  pub no_shape : IsToldExactly (Own NoShape) 2 (codes "words refused\n")
  pub not_written : IsToldExactly NotWritten 9 (codes "write failed\n")
  pub memory : IsToldExactly Memory 11 (codes "want of memory\n")

-- the status that is due for what the words ask for
abbrev pub IsDue : Files → Asked → ℕ → Type 0
IsDue files asked status = ExpectedStatus (command_for asked) files status

-- the status with which the command for it ends, and what it writes, for what its files hold
abbrev pub IsTextOf : Asked → Game → Report → ℕ → List ℕ → Type 0
IsTextOf asked g r status text =
    (command_for asked).ends (inputs.game g ∷ inputs.report r ∷ []) status × (command_for asked).writes (inputs.game g ∷ inputs.report r ∷ []) status text

-- the files hold this many bytes under the name
pub record HoldsBytes (files : Files) (name bytes : List ℕ) (size : ℕ) : Type 0 where
  pub stands : bytes_under files name ≡ Some bytes
  pub count : length bytes ≡ size

-- a game of 4 MiB and a report of 512 MiB are read, and no longer ones
pub record WorkedLimits : Type 0 where
  pub longest_game : (files : Files) (game bytes : List ℕ) (fault : GameFault) → HoldsBytes files game bytes 4194304 → game_of_bytes bytes ≡ Err fault → IsDue files (solve game usual_budget usual_order) 6
  pub longer_game : (files : Files) (game bytes : List ℕ) → HoldsBytes files game bytes 4194305 → IsDue files (solve game usual_budget usual_order) 5
  pub longest_report : (files : Files) (game report bytes text : List ℕ) (fault : ReportFault) → HoldsBytes files game bytes 4194304 → game_of_bytes bytes ≡ Ok one_player
      → HoldsBytes files report text 536870912 → report_of text ≡ Err fault → IsDue files (check game report) 7
  pub longer_report : (files : Files) (game report bytes text : List ℕ) → HoldsBytes files game bytes 4194304 → game_of_bytes bytes ≡ Ok one_player
      → HoldsBytes files report text 536870913 → IsDue files (check game report) 5

-- the files hold bytes for the game of one type, whose best value is 11 / 3, and for this report
pub record HoldsPair (files : Files) (game report : List ℕ) (r : Report) : Type 0 where
  pub bytes : List ℕ
  pub holds_game : bytes_under files game ≡ Some bytes
  pub few : length bytes ≤ 1000
  pub says_game : game_of_bytes bytes ≡ Ok one_player
  pub text : List ℕ
  pub holds_report : bytes_under files report ≡ Some text
  pub short : length text ≤ 1000
  pub says_report : report_of text ≡ Ok r

-- the value stated as 4
abbrev pub wrong_report : Report
wrong_report = reported two_to_one 3 (over 4 1) [] (one_type_tree first_fact second_fact) (over 11 3) Optimal

-- what is due for them, and what is written
pub record WorkedChecks : Type 0 where
  pub optimal : (files : Files) (game report : List ℕ) → HoldsPair files game report one_type_report
      → IsTextOf (check game report) one_player one_type_report 0 (codes "yes optimal 11 3\n") × IsDue files (check game report) 0 × IsDue files (show game report) 0
  pub gap : (files : Files) (game report : List ℕ) → HoldsPair files game report spent_report
      → IsTextOf (check game report) one_player spent_report 10 (codes "yes gap 2 1 4 1\n") × IsDue files (check game report) 10 × IsDue files (show game report) 0
  pub wrong : (files : Files) (game report : List ℕ) → HoldsPair files game report wrong_report → IsDue files (check game report) 7 × IsDue files (show game report) 7
