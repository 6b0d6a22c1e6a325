-- What a yes of the checker proves.
use Rattle.sg_model.specs.Games.{Game}
use Rattle.sg_model.specs.Limits.{IsGame}
use Rattle.sg_tree.specs.declared.report.Report.{Report}
use Rattle.sg_bounds.specs.Accepted.{IsAccepted}
use Rattle.sg_bounds.specs.ReportLaws.{AcceptedMeans}
use Rattle.sg_check.specs.declared.verdict.Verdict.{Verdict}
use Rattle.sg_check.specs.declared.verdict.Verdict.TheVariants.{YesOptimal, YesGap, No}
use Rattle.sg_check.specs.Verdicts.{IsYes, Proves}

-- an accepted report proves what a yes to it says
pub yes_proves : AcceptedMeans → (g : Game) → IsGame g → (r : Report) → IsAccepted g r → (v : Verdict) → IsYes r v → Proves g r v
yes_proves law g is r a (YesOptimal value) y = (law g is r a, y.1, (law g is r a).optimal y.0)
yes_proves law g is r a (YesGap value upper) y = (law g is r a, y.1, y.2)
yes_proves law g is r a (No line reason) y = absurd y
