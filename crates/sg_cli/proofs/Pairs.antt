-- What `solve` writes, `check` accepts.
use Rattle.std.proofs.Common.{◌≡◌, ℕ, ◌≤◌, Bool, true, false, MatchBool, List, [], ◌∷◌, length, Option, Some, Ok, refl, sym, ◌∙◌, ap, subst, arith, inl, inr}
use Rattle.sg_model.specs.Games.{Game}
use Rattle.sg_model.specs.Limits.{IsGame, is_scaled}
use Rattle.sg_options.specs.declared.budget.Budget.{Budget}
use Rattle.sg_options.specs.declared.order.Order.{Order}
use Rattle.sg_tree.specs.declared.worked.Worked.{Worked}
use Rattle.sg_bounds.specs.Accepted.{IsAccepted}
use Rattle.sg_solve.specs.Answers.{IsLevelAnswer, IsSearchAnswer}
use Rattle.sg_model.proofs.Promises.{origami}
use Rattle.sg_format.specs.GameFiles.{game_of_bytes}
use Rattle.sg_format.proofs.Accepted.{accepted}
use Rattle.sg_tree.specs.declared.fact.Fact.TheVariants.{Water}
use Rattle.sg_tree.specs.declared.report.Report.{Report}
use Rattle.sg_cert.specs.Reading.{report_of}
use Rattle.sg_cert.proofs.WholeAgain.{whole_again}
use Rattle.sg_bounds.specs.Trees.{node_of}
use Rattle.sg_bounds.proofs.Nodes.{node_of-Closed}
use Rattle.sg_bounds.proofs.Reports.{accepted_means}
use Rattle.sg_shelf.specs.Files.{Files, any_bytes, bytes_under}
use Rattle.sg_cli.specs.Inputs.{Content, IsHandedAs, game, game_file, held_as, report, report_file}
use Rattle.sg_cli.specs.Commands.{Command}
use Rattle.sg_cli.specs.Checking.{ends_yes, writes_yes}
use Rattle.sg_cli.specs.ExpectedStatus.{ExpectedStatus}
use Rattle.sg_cli.specs.Judging.{IsJudged, judging}
use Rattle.sg_cli.specs.Laws.{IsWritten, SolvedIsChecked}
use Rattle.sg_cli.specs.Showing.{ends_shown, writes_table}
use Rattle.sg_cli.specs.Solving.{IsSolved}
use Rattle.sg_cli.specs.declared.input.InputFault.{InputFault}
use Rattle.sg_cli.specs.declared.input.InputFault.TheVariants as faults
use Rattle.sg_cli.proofs.Completes.{by_said}
use Rattle.sg_cli.proofs.Lengths.{readable}

-- ---- a report that `solve` writes

is_accepted : (g : Game) (b : Budget) (o : Order) (r : Report) (worked : List Worked) (scaled : Bool) → MatchBool scaled (IsLevelAnswer g r worked) (IsSearchAnswer g b o r worked) → IsAccepted g r
is_accepted g b o r worked true a = a.right.accepted
is_accepted g b o r worked false a = a.accepted

pub judged : (g : Game) → IsGame g → (b : Budget) (o : Order) (r : Report) → IsSolved g b o r → IsJudged g r
judged g is b o r a =
    let accepted : IsAccepted g r = is_accepted g b o r a.worked (is_scaled g) a.answer in
    record { accepted = accepted; means = accepted_means g is r accepted }

-- ---- what is due for it

module _ (files : Files) (name named : List ℕ) (w : IsWritten files name named) where
  pub says_game : IsHandedAs any_bytes (Some files) (game_file name) (Ok (game w.solved))
  says_game = record { bytes = w.bytes; handed = tt; reads = w.reads; holds = ap (held_as game faults.Game) w.says }

  pub says_report : IsGame w.solved → IsHandedAs any_bytes (Some files) (report_file named) (Ok (report w.answer.report))
  says_report is =
      let le : length w.text ≤ 536870912 = omega (arith, ap length w.answer.written, readable w.solved is w.budget w.order w.answer.report w.answer.answer) in
      let reads : report_of w.text ≡ Ok w.answer.report = ap report_of w.answer.written ∙ whole_again w.answer.report w.answer.answer.in_ranges in
      record { bytes = w.text; handed = tt; reads = record { may_hold = w.stands; within = le }; holds = ap (held_as report faults.Report) reads }

  module _ (ends : List Content → ℕ → Type 0) (writes : List Content → ℕ → List ℕ → Type 0) where
    abbrev command : Command
    command = record { plan = judging name named; ends = ends; writes = writes; is_formed_late = false }

    due : (status : ℕ) → ends (game w.solved ∷ report w.answer.report ∷ []) status → ExpectedStatus command files status
    due status ends =
        let is = accepted w.bytes w.solved w.says in
        by_said any_bytes command files status [] (game_file name) (report_file named ∷ []) (game w.solved) tt says_game
        (by_said any_bytes command files status (game w.solved ∷ []) (report_file named) [] (report w.answer.report) tt (says_report is)
        (inr (judged w.solved is w.budget w.order w.answer.report w.answer.answer, ends)))

pub solved_is_checked : SolvedIsChecked
solved_is_checked files name named w =
    (due files name named w ends_yes writes_yes w.status w.answer.status_is, due files name named w ends_shown writes_table 0 refl)
