-- What the steps of a run answer: what they got from the files, or why not.
use Rattle.std.specs.Prelude.{◌≡◌, ◌⊎◌, ℕ, ◌≤◌, List, [], ◌∷◌, ◌++◌, Result, Ok, Err}
use Rattle.sg_model.specs.declared.fault.GameFault.{GameFault}
use Rattle.sg_model.specs.Games.{Game}
use Rattle.sg_tree.specs.declared.report.Report.{Report}
use Rattle.sg_cert.specs.declared.fault.ReportFault.{ReportFault}
use Rattle.sg_shelf.specs.Faults.{HasRisen}
use Rattle.sg_shelf.specs.Files.{HandsOver, IsMissing, Reads}
use Rattle.sg_shelf.specs.States.{ShelfState}
use Rattle.sg_shelf.specs.declared.log.Outcome.TheVariants as outcomes
use Rattle.sg_cli.specs.Inputs.{Input, game, game_file, input_limit, report}
use Rattle.sg_cli.specs.Commands.{Plan}
use Rattle.sg_cli.specs.Progress.{HasRead, read_of}
use Rattle.sg_cli.specs.Effects.{IsLongWhereTold}
use Rattle.sg_options.specs.declared.budget.Budget.{Budget}
use Rattle.sg_options.specs.declared.order.Order.{Order}
use Rattle.sg_solve.specs.Answers.{IsServed}
use Rattle.sg_cli.specs.Solving.{IsSolved, refuses_unserved}
use Rattle.sg_cli.specs.Judging.{IsJudged, judging}
use Rattle.sg_cli.specs.declared.input.InputFault.TheVariants as faults
use Rattle.sg_cli.specs.declared.input.InputKind.{InputKind}
use Rattle.sg_cli.specs.declared.refusal.Refusal.{Refusal}
use Rattle.sg_cli.specs.declared.refusal.Refusal.TheVariants.{Words, NotRead, TooLong, Refused, Own, NotWritten, Memory}

-- a file, in one record
abbrev pub input : InputKind → List ℕ → Input
input kind name = record { kind = kind; name = name }

-- the file was read, and these bytes were handed over
pub record GivesContent (hands : HandsOver) (before after : ShelfState) (file : Input) (bytes : List ℕ) : Type 0 where
  pub log : after.log ≡ before.log ++ read_of outcomes.Given file ∷ []
  pub handed : hands file.name (input_limit file.kind) bytes
  pub reads : Reads before.files file.name (input_limit file.kind) bytes
  pub files : after.files ≡ before.files
  pub count : before.faults ≤ after.faults

-- no bytes were read of it
abbrev pub GivesNone : ShelfState → ShelfState → Input → Refusal → Type 0
GivesNone before after file (NotRead kind) =
    (file.kind ≡ kind) × (after.log ≡ before.log ++ read_of outcomes.Failed file ∷ []) × (HasRisen before.faults after.faults ⊎ IsMissing before.files file.name)
GivesNone before after file (TooLong kind) =
    (file.kind ≡ kind) × (after.log ≡ before.log ++ read_of outcomes.TooLong file ∷ []) × IsLongWhereTold before.files file.name (input_limit file.kind) before after
GivesNone before after file Memory = after ≡ before
GivesNone before after file _ = ⊥

-- bytes that give no game
abbrev pub GivesNoGame : Result Game GameFault → Refusal → Type 0
GivesNoGame says (Refused (faults.Game fault)) = says ≡ Err fault
GivesNoGame says (Refused (faults.Report fault)) = ⊥
GivesNoGame says Memory = Unit {0}
GivesNoGame says _ = ⊥

-- bytes that give no report
abbrev pub GivesNoReport : Result Report ReportFault → Refusal → Type 0
GivesNoReport says (Refused (faults.Game fault)) = ⊥
GivesNoReport says (Refused (faults.Report fault)) = says ≡ Err fault
GivesNoReport says Memory = Unit {0}
GivesNoReport says _ = ⊥

-- a game that gives no report: memory is wanted for one that is served alone
abbrev pub SolvingFails : Game → Refusal → Type 0
SolvingFails g (Own own) = refuses_unserved (game g ∷ []) own
SolvingFails g Memory = IsServed g
SolvingFails g _ = ⊥

-- an answer for a game that is served
pub record IsSolution (g : Game) (b : Budget) (o : Order) (r : Report) : Type 0 where
  pub is_served : IsServed g
  pub answer : IsSolved g b o r

-- the file holds a game, for which this is an answer
pub record HasSolution (hands : HandsOver) (name : List ℕ) (b : Budget) (o : Order) (before after : ShelfState) (r : Report) : Type 0 where
  pub solved : Game
  pub read : HasRead hands before after (game_file name ∷ []) (game solved ∷ [])
  pub solution : IsSolution solved b o r

-- the files hold this game and this report, which is accepted for it
pub record HasAccepted (hands : HandsOver) (plan : Plan) (before after : ShelfState) (g : Game) (r : Report) : Type 0 where
  pub read : HasRead hands before after plan.inputs (game g ∷ report r ∷ [])
  pub judged : IsJudged g r
