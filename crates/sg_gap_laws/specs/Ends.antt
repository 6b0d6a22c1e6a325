-- The end of a search whose nodes are worked by their programs, and the report of it.
use Rattle.std.specs.Prelude.{◌≡◌, ◌⊎◌, ℕ, ◌≤◌, List, [], ◌∷◌, pos, All}
use Rattle.sg_model.specs.Games.{Game}
use Rattle.sg_model.specs.Limits.{IsGame}
use Rattle.sg_tree.specs.declared.fix.Fix.{Fix}
use Rattle.sg_tree.specs.declared.report.Cause.{Cause}
use Rattle.sg_tree.specs.declared.report.Cause.TheVariants as cause
use Rattle.sg_tree.specs.declared.report.Ending.TheVariants.{Optimal, Gap}
use Rattle.sg_tree.specs.declared.report.Report.{Report}
use Rattle.sg_tree.specs.declared.worked.Worked.{Worked}
use Rattle.sg_bounds.specs.Regions.{IsNode}
use Rattle.sg_search.specs.declared.held.Stuck.{Stuck}
use Rattle.sg_search.specs.Searches.{Task, Search, first_search}
use Rattle.sg_search.specs.Changes.{Change, IsStill, Runs}
use Rattle.sg_search.specs.ReportLaws.{IsReportOf}
use Rattle.sg_search.specs.Results.{IsFirst}
use Rattle.sg_programs.specs.NodeLaws.{IsMethodAt}
use Rattle.sg_programs.specs.NodeTests.{ClosesNode, Method, StopsNode}

-- a search for a commitment to a game without a scale has ended, in the state t: changes lead there from the start, and none may happen any more; what
-- was worked closes its node by the method, and what was stuck stops it
pub record HasEnded (g : Game) (m : Method) (p : Task) (t : Search) : Type 0 where
  pub game : IsGame g
  pub unscaled : g.scale ≡ pos 0
  pub about : p.game ≡ g
  pub lanes : 1 ≤ p.lanes
  pub first : IsFirst g p.first
  pub changes : List Change
  pub runs : Runs p (first_search p) changes t
  pub still : IsStill p t
  pub methods : (fix : Fix) → IsNode g fix → IsMethodAt g m fix
  pub closes : All (λ (w : Worked). ClosesNode g m w.fix w.fact w.point) t.worked
  pub stops : All (λ (x : Stuck). StopsNode g m x.node x.cause) t.stuck

-- the cause of the first stuck node, or where nothing is stuck that so many nodes are spent
abbrev pub stuck_or_spent : ℕ → List Stuck → Cause
stuck_or_spent nodes [] = cause.Nodes nodes
stuck_or_spent nodes (x ∷ xs) = x.cause

-- the cause that is due where the bounds of an end don't meet
abbrev pub cause_due : Task → Search → Cause
cause_due p t = stuck_or_spent p.nodes t.stuck

-- the report of an end: what is read off the search; it says that its bounds meet, or else the cause that is due
pub record IsEndReport (p : Task) (t : Search) (r : Report) : Type 0 where
  pub reads : IsReportOf p t r
  pub verdict : (r.ending ≡ Optimal) ⊎ (r.ending ≡ Gap (cause_due p t))
