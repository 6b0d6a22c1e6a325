-- What holds of the tests of a report.
use Rattle.std.specs.Prelude.{◌≡◌, ◌↔◌, ◌⊎◌, ℕ, List}
use Rattle.sg_model.specs.Games.{Game}
use Rattle.sg_tree.specs.declared.report.Report.{Report}
use Rattle.sg_bounds.specs.Accepted.{IsAccepted}
use Rattle.sg_bounds.specs.Checking.{Stop, AllPass, FirstFails, IsReportValue, IsRefused, stops_of}

-- where a test fails first, not all pass, and no other test fails first
abbrev pub FirstIsOne : Type 0
FirstIsOne = (g : Game) (r : Report) (stops : List Stop) (line reason : ℕ) → FirstFails g r stops line reason
    → (AllPass g r stops → ⊥) × ((other why : ℕ) → FirstFails g r stops other why → (line ≡ other) × (reason ≡ why))

-- all tests of a report pass just where it is accepted
abbrev pub PassingIsAcceptance : Type 0
PassingIsAcceptance = (g : Game) (r : Report) → IsReportValue r → (AllPass g r (stops_of g r) ↔ IsAccepted g r)

-- an accepted report is refused nowhere, and a report is refused with one reason at one line at most
abbrev pub RefusalIsOne : Type 0
RefusalIsOne = (g : Game) (r : Report)
    → (IsAccepted g r → (line reason : ℕ) → IsRefused g r line reason → ⊥)
    × ((line reason other why : ℕ) → IsRefused g r line reason → IsRefused g r other why → (line ≡ other) × (reason ≡ why))

-- a report is accepted, or refused with a reason at a line
abbrev pub EachIsAnswered : Type 0
EachIsAnswered = (g : Game) (r : Report) → IsReportValue r → IsAccepted g r ⊎ ((line : ℕ) × (reason : ℕ) × IsRefused g r line reason)
