-- Laws about the commands together.
use Rattle.std.specs.Prelude.{◌≡◌, ◌⊎◌, ◌≤◌, ◌^◌, ℕ, false, if◌then◌else◌, List, length, Some, Ok}
use Rattle.sg_model.specs.Games.{Game}
use Rattle.sg_model.specs.Limits.{IsGame, is_scaled}
use Rattle.sg_options.specs.declared.budget.Budget.{Budget}
use Rattle.sg_options.specs.declared.order.Order.{Order}
use Rattle.sg_format.specs.GameFiles.{game_of_bytes}
use Rattle.sg_tree.specs.declared.report.Report.{Report}
use Rattle.sg_cert.specs.Text.{report_text}
use Rattle.sg_shelf.specs.Files.{Files, Reads, bytes_under}
use Rattle.sg_words.specs.Commands.{Asked, solve}
use Rattle.sg_cli.specs.Inputs.{input_limit}
use Rattle.sg_cli.specs.Commands.{IsSuccess}
use Rattle.sg_cli.specs.CommandList.{command_for}
use Rattle.sg_solve.specs.Answers.{IsServed}
use Rattle.sg_cli.specs.Solving.{IsSolved, WritesAnswer}
use Rattle.sg_cli.specs.Checking.{checking}
use Rattle.sg_cli.specs.Showing.{showing}
use Rattle.sg_cli.specs.ExpectedStatus.{ExpectedStatus}
use Rattle.sg_cli.specs.declared.input.InputKind.TheVariants as kinds

-- the words ask to solve a game without a scale
pub record AsksToSearch (files : Files) (asked : Asked) : Type 0 where
  pub name : List ℕ
  pub budget : Budget
  pub order : Order
  pub asks : asked ≡ solve name budget order
  pub bytes : List ℕ
  pub stands : bytes_under files name ≡ Some bytes
  pub searched : Game
  pub says : game_of_bytes bytes ≡ Ok searched
  pub unscaled : is_scaled searched ≡ false

-- told files decide one status for each command; but where a game without a scale is to be solved, it may be either of the two of success, by whether the bounds
-- of the search meet
abbrev pub IsDecided : Files → Asked → Type 0
IsDecided files asked = (status : ℕ) × ExpectedStatus (command_for asked) files status
    × ((other : ℕ) → ExpectedStatus (command_for asked) files other → (other ≡ status) ⊎ (AsksToSearch files asked × IsSuccess status × IsSuccess other))

abbrev pub OneStatusIsDue : Type 0
OneStatusIsDue = (files : Files) (asked : Asked) → IsDecided files asked

-- a right report on a game of identical patrols has at most 16 MiB, and any answer's no more than a report's file may have
abbrev pub RightReportsAreShort : Type 0
RightReportsAreShort = (g : Game) → IsGame g → (b : Budget) (o : Order) (r : Report) → IsSolved g b o r → length (report_text r) ≤ (if is_scaled g then 2 ^ 24 else 2 ^ 29)

-- the files hold a game that is served, and a text that `solve` writes for it with some budget in some order
pub record IsWritten (files : Files) (game report : List ℕ) : Type 0 where
  pub bytes : List ℕ
  pub reads : Reads (Some files) game (input_limit kinds.Game) bytes
  pub solved : Game
  pub says : game_of_bytes bytes ≡ Ok solved
  pub is_served : IsServed solved
  pub budget : Budget
  pub order : Order
  pub status : ℕ
  pub text : List ℕ
  pub answer : WritesAnswer solved budget order status text
  pub stands : bytes_under files report ≡ Some text

-- what `solve` writes for a game is accepted by `check`, with the same status, and shown by `show`, where it stands in a file
abbrev pub SolvedIsChecked : Type 0
SolvedIsChecked = (files : Files) (game report : List ℕ) → (w : IsWritten files game report)
    → ExpectedStatus (checking game report) files w.status × ExpectedStatus (showing game report) files 0
