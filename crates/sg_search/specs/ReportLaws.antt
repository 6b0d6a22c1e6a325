-- The report that the end of a search gives.
use Rattle.std.specs.Prelude.{◌≡◌, ◌↔◌, false, true, List, ◌∷◌, All}
use Rattle.sg_model.specs.Payoffs.{IsPeopled}
use Rattle.sg_model.specs.Limits.{is_scaled}
use Rattle.sg_model.specs.Commitments.{IsValue, weight_total}
use Rattle.sg_frac.specs.Fractions.{IsReduced}
use Rattle.sg_tree.specs.declared.report.Report.{Report}
use Rattle.sg_bounds.specs.Trees.{node_of}
use Rattle.sg_bounds.specs.Leaves.{tree_bounds_of}
use Rattle.sg_bounds.specs.Accepted.{IsAccepted, IsGreatest, IsSame, is_optimal}
use Rattle.sg_search.specs.Searches.{Task, Search, first_search}
use Rattle.sg_search.specs.Bounding.{caps_of, incumbent, tree_of}
use Rattle.sg_search.specs.Changes.{Change, Runs}
use Rattle.sg_search.specs.Results.{IsFirst, IsResult}

-- a report that says what is read off a search: the incumbent with its value, the caps of the moment, the tree, and the
-- greatest of the value and the bounds of the leaves
pub record IsReportOf (p : Task) (s : Search) (r : Report) : Type 0 where
  pub tickets : r.tickets.tickets ≡ incumbent p s
  pub total : r.tickets.total ≡ weight_total r.tickets.tickets
  pub value : IsValue p.game r.tickets.tickets r.value.num r.value.den
  pub value_reduced : IsReduced r.value
  pub caps : r.caps ≡ caps_of p.game s
  pub tree : node_of r.tree ≡ tree_of p.game s
  pub upper : IsGreatest r.upper (r.value ∷ tree_bounds_of p.game r.caps (node_of r.tree))
  pub upper_reduced : IsReduced r.upper
  pub ending : (is_optimal r.ending ≡ true) ↔ IsSame r.value r.upper

-- it is accepted, and its verdict is the one that its bounds give
abbrev pub ReportIsAccepted : Type 0
ReportIsAccepted = (p : Task) → IsPeopled p.game → is_scaled p.game ≡ false → IsFirst p.game p.first → (cs : List Change) (t : Search) → Runs p (first_search p) cs t
    → All (IsResult p.game) t.worked → (r : Report) → IsReportOf p t r → IsAccepted p.game r
