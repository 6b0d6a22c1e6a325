-- What the verdicts of a checker mean.
use Rattle.std.specs.Prelude.{◌≡◌, true, false}
use Rattle.sg_model.specs.Games.{Game}
use Rattle.sg_tree.specs.declared.report.Report.{Report}
use Rattle.sg_bounds.specs.Accepted.{IsAccepted, is_optimal}
use Rattle.sg_bounds.specs.Checking.{IsRefused}
use Rattle.sg_bounds.specs.ReportLaws.{Means}
use Rattle.sg_model.specs.Optimality.{IsOptimal}
use Rattle.sg_check.specs.declared.verdict.Verdict.{Verdict}
use Rattle.sg_check.specs.declared.verdict.Verdict.TheVariants.{YesOptimal, YesGap, No}

-- the report is accepted with bounds that meet
pub record IsAcceptedOptimal (g : Game) (r : Report) : Type 0 where
  pub accepted : IsAccepted g r
  pub ending : is_optimal r.ending ≡ true

-- the report is accepted with bounds that don't meet
pub record IsAcceptedGap (g : Game) (r : Report) : Type 0 where
  pub accepted : IsAccepted g r
  pub ending : is_optimal r.ending ≡ false

-- a yes says that the report is accepted and tells its value, and with a gap its upper bound; a no says where it is refused
abbrev pub Judges : Game → Report → Verdict → Type 0
Judges g r (YesOptimal value) = IsAcceptedOptimal g r × (value ≡ r.value)
Judges g r (YesGap value upper) = IsAcceptedGap g r × (value ≡ r.value) × (upper ≡ r.upper)
Judges g r (No line reason) = IsRefused g r line reason

-- a yes with the report's own numbers: with its upper bound where it says that its bounds don't meet
abbrev pub IsYes : Report → Verdict → Type 0
IsYes r (YesOptimal value) = (is_optimal r.ending ≡ true) × (value ≡ r.value)
IsYes r (YesGap value upper) = (is_optimal r.ending ≡ false) × (value ≡ r.value) × (upper ≡ r.upper)
IsYes r (No line reason) = ⊥

-- what a verdict proves, whoever wrote the report: a yes that the tickets are legal and have exactly this value, and that no commitment has more
-- than the upper bound, with `YesOptimal` none more than the tickets; a no proves nothing
abbrev pub Proves : Game → Report → Verdict → Type 0
Proves g r (YesOptimal value) = Means g r × (value ≡ r.value) × IsOptimal g r.tickets.tickets
Proves g r (YesGap value upper) = Means g r × (value ≡ r.value) × (upper ≡ r.upper)
Proves g r (No line reason) = Unit {0}
