-- What is answered for a game: the right report on a game of identical patrols, and on any other the report of the end of a search.
use Rattle.std.specs.Prelude.{◌≡◌, ◌≢◌, ◌⊎◌, ℕ, ◌≤◌, ◌^◌, true, false, List, [], length, All, IfSome, MatchBool}
use Rattle.sg_options.specs.declared.budget.Budget.{Budget}
use Rattle.sg_options.specs.declared.order.Order.{Order}
use Rattle.sg_model.specs.Games.{Game}
use Rattle.sg_model.specs.Limits.{is_scaled}
use Rattle.sg_model.specs.Optimality.{IsOptimal}
use Rattle.sg_model.specs.PlayLists.{play_count}
use Rattle.sg_tree.specs.declared.fix.Fix.{Fix}
use Rattle.sg_tree.specs.declared.report.Cause.{Cause}
use Rattle.sg_tree.specs.declared.report.Cause.TheVariants as cause
use Rattle.sg_tree.specs.declared.report.Ending.TheVariants.{Gap, Optimal}
use Rattle.sg_tree.specs.declared.report.Report.{Report}
use Rattle.sg_tree.specs.declared.worked.Worked.{Worked}
use Rattle.sg_bounds.specs.Accepted.{IsAccepted, IsNotAbove}
use Rattle.sg_cert.specs.Ranges.{IsReport}
use Rattle.sg_cert.specs.Text.{report_text}
use Rattle.sg_lp.specs.Programs.{enough_pivots}
use Rattle.sg_search.specs.Searches.{Search}
use Rattle.sg_search.specs.Bounding.{exceeds, value_fraction}
use Rattle.sg_search.specs.CountLaws.{enough_nodes}
use Rattle.sg_programs.specs.CauseRows.{IsGapCause}
use Rattle.sg_programs.specs.Enough.{enough_looks, node_budget}
use Rattle.sg_programs.specs.Plays.{plays_program}
use Rattle.sg_gap_laws.specs.Ends.{IsEndReport}
use Rattle.sg_solve.specs.Searching.{IsEndOfSearch, method_of, task_of}
use Rattle.sg_solve.specs.Solutions.{IsOptimalReport}

-- the games that are solved so far: those that declare a scale, and those with at most 4,096 legal plays
abbrev pub IsServed : Game → Type 0
IsServed g = is_scaled g ≡ false → play_count g ≤ 4096

-- ---- a gap

-- its bounds differ, its cause is so, and no cause comes whose budget is enough
pub record IsCausedGap (g : Game) (b : Budget) (r : Report) (worked : List Worked) (why : Cause) : Type 0 where
  pub below : exceeds r.upper r.value ≡ true
  pub caused : IsGapCause g (method_of g b) b.nodes r worked why
  pub nodes_lack : (n : ℕ) → why ≡ cause.Nodes n → ¬ (enough_nodes g ≤ node_budget g b.nodes)
  pub looks_lack : (budget step : ℕ) (fix : Fix) → why ≡ cause.Looks budget step fix → ¬ (enough_looks g ≤ b.looks)
  pub pivots_lack : (budget : ℕ) (fix : Fix) → why ≡ cause.Pivots budget fix → ¬ (enough_pivots (plays_program g fix) ≤ b.pivots)

-- ---- the answers

-- the report of the end of a search, with the nodes that were worked
pub record IsSearchAnswer (g : Game) (b : Budget) (o : Order) (r : Report) (worked : List Worked) : Type 0 where
  -- the search by these budgets in this order ends there, and the report is read off its end
  pub end : Search
  pub ended : IsEndOfSearch g b o end
  pub reads : IsEndReport (task_of g b o) end r
  pub worked_are : worked ≡ end.worked
  -- a checker accepts it; where it says that its bounds meet, no commitment has more than its value, which is that of its tickets
  pub accepted : IsAccepted g r
  pub optimal : r.ending ≡ Optimal → IsOptimal g r.tickets.tickets
  -- its value is at least that of each worked point
  pub points : All (λ (w : Worked). IfSome w.point (λ k. IsNotAbove (value_fraction g k.tickets) r.value)) worked
  -- its text is a report text, which is short enough to be read again
  pub in_ranges : IsReport r
  pub short : length (report_text r) ≤ 2 ^ 29
  -- and a gap has its cause
  pub gap : (why : Cause) → r.ending ≡ Gap why → IsCausedGap g b r worked why

-- the right report on a game of identical patrols, for which no node is worked
pub record IsLevelAnswer (g : Game) (r : Report) (worked : List Worked) : Type 0 where
  pub right : IsOptimalReport g r
  pub none_worked : worked ≡ []

-- what is answered for a game with these budgets and in this order
abbrev pub IsAnswer : Game → Budget → Order → Report → List Worked → Type 0
IsAnswer g b o r worked = MatchBool (is_scaled g) (IsLevelAnswer g r worked) (IsSearchAnswer g b o r worked)
