-- The command `solve GAME`, with a budget and an order.
use Rattle.std.specs.Prelude.{◌≡◌, ℕ, false, List, [], ◌∷◌, MatchBool}
use Rattle.sg_options.specs.declared.budget.Budget.{Budget}
use Rattle.sg_options.specs.declared.order.Order.{Order}
use Rattle.sg_model.specs.Games.{Game}
use Rattle.sg_model.specs.Limits.{is_scaled}
use Rattle.sg_tree.specs.declared.report.Report.{Report}
use Rattle.sg_tree.specs.declared.worked.Worked.{Worked}
use Rattle.sg_cert.specs.Ranges.{IsReport}
use Rattle.sg_cert.specs.Text.{report_text}
use Rattle.sg_solve.specs.Answers.{IsAnswer, IsServed}
use Rattle.sg_cli.specs.Checking.{yes_status}
use Rattle.sg_cli.specs.Inputs.{Content, game, game_file}
use Rattle.sg_cli.specs.Commands.{Command, IsSuccess}
use Rattle.sg_cli.specs.declared.refusal.CommandRefusal.{CommandRefusal}
use Rattle.sg_cli.specs.declared.refusal.CommandRefusal.TheVariants.{NotYet}

-- a report that is an answer for the game with this budget in this order, and whose text is a report text
pub record IsSolved (g : Game) (b : Budget) (o : Order) (r : Report) : Type 0 where
  pub worked : List Worked
  pub answer : IsAnswer g b o r worked
  pub in_ranges : IsReport r

-- a game is taken where it is served
abbrev pub takes_served : List Content → Type 0
takes_served [] = Unit {0}
takes_served (game g ∷ []) = IsServed g
takes_served _ = ⊥

-- or else it is not taken yet
abbrev pub refuses_unserved : List Content → CommandRefusal → Type 0
refuses_unserved (game g ∷ []) NotYet = ¬ (IsServed g)
refuses_unserved _ _ = ⊥

-- with success: a game of identical patrols is solved, and of any other the bounds meet or not
abbrev pub ends_solved : List Content → ℕ → Type 0
ends_solved (game g ∷ []) status = MatchBool (is_scaled g) (status ≡ 0) (IsSuccess status)
ends_solved _ status = ⊥

-- the text of an answer for the game is written, and the status tells whether its bounds meet
pub record WritesAnswer (g : Game) (b : Budget) (o : Order) (status : ℕ) (text : List ℕ) : Type 0 where
  pub report : Report
  pub answer : IsSolved g b o report
  pub status_is : status ≡ yes_status report
  pub written : text ≡ report_text report

abbrev pub writes_answer : Budget → Order → List Content → ℕ → List ℕ → Type 0
writes_answer b o (game g ∷ []) status text = WritesAnswer g b o status text
writes_answer b o _ status text = ⊥

-- the command
abbrev pub solving : List ℕ → Budget → Order → Command
solving name b o = record {
  plan = record { inputs = game_file name ∷ []; takes = takes_served; refuses = refuses_unserved };
  ends = ends_solved;
  writes = writes_answer b o;
  is_formed_late = false;
}
