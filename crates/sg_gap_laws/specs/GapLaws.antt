-- What holds of the end of a search and of its report: what was worked, the value, and the cause of a gap.
use Rattle.std.specs.Prelude.{◌≡◌, ℕ, true, false, All, IfSome}
use Rattle.sg_model.specs.Games.{Game}
use Rattle.sg_tree.specs.declared.report.Cause.{Cause}
use Rattle.sg_tree.specs.declared.report.Ending.TheVariants.{Gap}
use Rattle.sg_tree.specs.declared.report.Report.{Report}
use Rattle.sg_tree.specs.declared.worked.Worked.{Worked}
use Rattle.sg_bounds.specs.Accepted.{IsAccepted, IsNotAbove, is_optimal}
use Rattle.sg_bounds.specs.Regions.{IsNode}
use Rattle.sg_search.specs.declared.held.Stuck.{Stuck}
use Rattle.sg_search.specs.Searches.{Task, Search}
use Rattle.sg_search.specs.Bounding.{exceeds, value_fraction}
use Rattle.sg_search.specs.ReportLaws.{IsReportOf}
use Rattle.sg_search.specs.Results.{IsResult}
use Rattle.sg_programs.specs.CauseRows.{IsGapCause}
use Rattle.sg_programs.specs.Enough.{node_budget}
use Rattle.sg_programs.specs.NodeTests.{Method}
use Rattle.sg_gap_laws.specs.Ends.{HasEnded, IsEndReport}

-- the worked nodes are results of the search: a fact that holds, a point that reaches its bound, numbers that fit
abbrev pub WorkedAreResults : Type 0
WorkedAreResults = (g : Game) (m : Method) (p : Task) (t : Search) → HasEnded g m p t → All (IsResult g) t.worked

-- the stuck nodes are nodes of the game
abbrev pub StuckAreNodes : Type 0
StuckAreNodes = (g : Game) (m : Method) (p : Task) (t : Search) → HasEnded g m p t → All (λ (x : Stuck). IsNode g x.node) t.stuck

-- the report of the end is accepted
abbrev pub EndIsAccepted : Type 0
EndIsAccepted = (g : Game) (m : Method) (p : Task) (t : Search) → HasEnded g m p t → (r : Report) → IsReportOf p t r → IsAccepted g r

-- its value is at least that of each worked point
abbrev pub PointsAreNotAbove : Type 0
PointsAreNotAbove = (g : Game) (m : Method) (p : Task) (t : Search) → HasEnded g m p t → (r : Report) → IsReportOf p t r
    → All (λ (w : Worked). IfSome w.point (λ k. IsNotAbove (value_fraction g k.tickets) r.value)) t.worked

-- where it says that its bounds meet, the upper bound is the value; else it is above the value
abbrev pub ValueIsBelow : Type 0
ValueIsBelow = (g : Game) (m : Method) (p : Task) (t : Search) → HasEnded g m p t → (r : Report) → IsReportOf p t r
    → (is_optimal r.ending ≡ true → r.upper ≡ r.value) × (is_optimal r.ending ≡ false → exceeds r.upper r.value ≡ true)

-- where the nodes that may be worked are the budget in force, the cause of a gap is so: nodes are spent; or a node says why it is stuck, it stays
-- unproved, and either nodes are spent besides or all that is open is stuck
abbrev pub GapIsCaused : Type 0
GapIsCaused = (g : Game) (m : Method) (p : Task) (t : Search) → HasEnded g m p t → (nodes : ℕ) → p.nodes ≡ node_budget g nodes
    → (r : Report) → IsEndReport p t r → (why : Cause) → r.ending ≡ Gap why → IsGapCause g m nodes r t.worked why
