-- Which causes of a gap never come where budgets are enough.
use Rattle.std.specs.Prelude.{◌≡◌, ◌≢◌, ◌⊎◌, ℕ, ◌≤◌}
use Rattle.sg_num.specs.declared.step.Wide.{Wide}
use Rattle.sg_model.specs.Games.{Game}
use Rattle.sg_tree.specs.declared.fix.Fix.{Fix}
use Rattle.sg_tree.specs.declared.report.Cause.TheVariants as cause
use Rattle.sg_tree.specs.declared.report.Ending.TheVariants.{Optimal, Gap}
use Rattle.sg_tree.specs.declared.report.Report.{Report}
use Rattle.sg_bounds.specs.Regions.{IsNode}
use Rattle.sg_search.specs.Searches.{Task, Search}
use Rattle.sg_search.specs.CountLaws.{enough_nodes}
use Rattle.sg_lp.specs.Programs.{enough_pivots}
use Rattle.sg_programs.specs.Enough.{enough_looks, node_budget}
use Rattle.sg_programs.specs.NodeTests.{Method}
use Rattle.sg_programs.specs.Plays.{plays_program}
use Rattle.sg_gap_laws.specs.Ends.{HasEnded, IsEndReport}

-- nodes aren't spent where as many as are enough may be worked
abbrev pub NoGapOfNodes : Type 0
NoGapOfNodes = (g : Game) (m : Method) (p : Task) (t : Search) → HasEnded g m p t → enough_nodes g ≤ p.nodes
    → (r : Report) → IsEndReport p t r → (n : ℕ) → r.ending ≢ Gap (cause.Nodes n)

-- looks aren't spent where as many as are enough may be made
abbrev pub NoGapOfLooks : Type 0
NoGapOfLooks = (g : Game) (m : Method) (p : Task) (t : Search) → HasEnded g m p t → enough_looks g ≤ m.looks
    → (r : Report) → IsEndReport p t r → (budget step : ℕ) (fix : Fix) → r.ending ≢ Gap (cause.Looks budget step fix)

-- moves aren't spent at a node where its run may make as many as its program has bases
abbrev pub NoGapOfPivots : Type 0
NoGapOfPivots = (g : Game) (m : Method) (p : Task) (t : Search) → HasEnded g m p t
    → (r : Report) → IsEndReport p t r → (budget : ℕ) (fix : Fix) → enough_pivots (plays_program g fix) ≤ m.pivots → r.ending ≢ Gap (cause.Pivots budget fix)

-- the budgets are enough for a game: of nodes, of looks and, at each node, of moves
pub record AreEnough (g : Game) (m : Method) (nodes : ℕ) : Type 0 where
  pub nodes_are : enough_nodes g ≤ nodes
  pub looks_are : enough_looks g ≤ m.looks
  pub pivots_are : (fix : Fix) → IsNode g fix → enough_pivots (plays_program g fix) ≤ m.pivots

-- where all budgets are enough the search ends with bounds that meet, or with a number that doesn't fit
abbrev pub EnoughLeavesWide : Type 0
EnoughLeavesWide = (g : Game) (m : Method) (p : Task) (t : Search) → HasEnded g m p t → (nodes : ℕ) → p.nodes ≡ node_budget g nodes → AreEnough g m (node_budget g nodes)
    → (r : Report) → IsEndReport p t r
    → (r.ending ≡ Optimal) ⊎ ((name : ℕ) × ((w : Wide) × ((step : ℕ) × ((fix : Fix) × (r.ending ≡ Gap (cause.Wide name w step fix))))))
