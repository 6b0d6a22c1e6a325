-- What a search is and comes to: a game without a scale, a budget of nodes, a method by which nodes are worked, and the report of a state that its
-- changes lead to.
use Rattle.std.specs.Prelude.{◌≡◌, List, length, pos, All, Contains}
use Rattle.sg_num.specs.Exact.{Fits}
use Rattle.sg_options.specs.declared.budget.Budget.{Budget}
use Rattle.sg_options.specs.Options.{IsBudget}
use Rattle.sg_model.specs.Limits.{IsGame}
use Rattle.sg_tree.specs.declared.fix.Fix.{Fix}
use Rattle.sg_tree.specs.declared.report.Cause.{Cause}
use Rattle.sg_tree.specs.declared.report.Cause.TheVariants as cause
use Rattle.sg_tree.specs.declared.report.Ending.{Ending}
use Rattle.sg_tree.specs.declared.report.Ending.TheVariants.{Optimal, Gap}
use Rattle.sg_tree.specs.declared.report.Report.{Report}
use Rattle.sg_tree.specs.declared.worked.Worked.{Worked}
use Rattle.sg_bounds.specs.Regions.{IsNode}
use Rattle.sg_search.specs.declared.held.Stuck.{Stuck}
use Rattle.sg_search.specs.Searches.{Task, Search, first_search}
use Rattle.sg_search.specs.Changes.{Change, Runs}
use Rattle.sg_search.specs.ReportLaws.{IsReportOf}
use Rattle.sg_search.specs.Results.{IsFirst}
use Rattle.sg_programs.specs.Enough.{node_budget}
use Rattle.sg_programs.specs.NodeLaws.{IsMethodAt}
use Rattle.sg_programs.specs.NodeTests.{ClosesNode, Method, StopsNode}

-- ---- how a report ends

-- the cause is that of a stuck node, or that nodes are spent, with the budget of nodes
abbrev pub IsCauseOf : Task → Search → Cause → Type 0
IsCauseOf p s (cause.Nodes n) = n ≡ p.nodes
IsCauseOf p s why = (x : Stuck) × (Contains s.stuck x × (x.cause ≡ why))

-- the bounds meet, or there is such a cause why they don't
abbrev pub IsEndingOf : Task → Search → Ending → Type 0
IsEndingOf p s Optimal = Unit {0}
IsEndingOf p s (Gap why) = IsCauseOf p s why

-- the operands of an operation that is named are numbers of 128 bits, as those of every operation of a program are
abbrev pub HasOperands : Cause → Type 0
HasOperands (cause.Wide name w step fix) = Fits w.left × Fits w.right
HasOperands why = Unit {0}

abbrev pub HasOperandsAt : Ending → Type 0
HasOperandsAt Optimal = Unit {0}
HasOperandsAt (Gap why) = HasOperands why

-- ---- the search

-- a task under a budget: a game without a scale, as many nodes as are asked for and may be worked of the game, and one play as first commitment
pub record IsTaskFor (b : Budget) (p : Task) : Type 0 where
  pub game : IsGame p.game
  pub unscaled : p.game.scale ≡ pos 0
  pub nodes : p.nodes ≡ node_budget p.game b.nodes
  pub first : IsFirst p.game p.first
  pub one : length p.first ≡ 1

-- a method with the budget's moves and looks, kept at each node of the game
pub record IsMethodFor (b : Budget) (p : Task) (m : Method) : Type 0 where
  pub pivots : m.pivots ≡ b.pivots
  pub looks : m.looks ≡ b.looks
  pub kept : (fix : Fix) → IsNode p.game fix → IsMethodAt p.game m fix

-- a state that changes lead to from the start, whose worked nodes are closed and whose stuck nodes are stopped by the method
pub record IsReached (p : Task) (m : Method) (s : Search) : Type 0 where
  pub changes : List Change
  pub run : Runs p (first_search p) changes s
  pub worked : All (λ (w : Worked). ClosesNode p.game m w.fix w.fact w.point) s.worked
  pub stuck : All (λ (x : Stuck). StopsNode p.game m x.node x.cause) s.stuck

-- the report is that of a state to which a search within a budget comes
pub record IsAnswerOf (b : Budget) (p : Task) (m : Method) (s : Search) (r : Report) : Type 0 where
  pub budget : IsBudget b
  pub task : IsTaskFor b p
  pub method : IsMethodFor b p m
  pub reached : IsReached p m s
  pub report : IsReportOf p s r
  pub ending : IsEndingOf p s r.ending
  pub operands : HasOperandsAt r.ending
