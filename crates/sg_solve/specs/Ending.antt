-- What the end of a search hands to its report.
use Rattle.std.specs.Prelude.{◌≡◌, ◌≢◌, ℕ, Option, unwrap_or}
use Rattle.sg_options.specs.declared.budget.Budget.{Budget}
use Rattle.sg_options.specs.declared.order.Order.{Order}
use Rattle.sg_model.specs.Games.{Game}
use Rattle.sg_frac.specs.Fractions.{Fraction}
use Rattle.sg_tree.specs.declared.report.Cause.{Cause}
use Rattle.sg_tree.specs.declared.report.Cause.TheVariants as cause
use Rattle.sg_tree.specs.declared.report.Ending.{Ending}
use Rattle.sg_tree.specs.declared.report.Ending.TheVariants.{Gap, Optimal}
use Rattle.sg_search.specs.Searches.{Search}
use Rattle.sg_search.specs.Results.{IsFirst}
use Rattle.sg_lanes.specs.Ends.{IsEndOf}
use Rattle.sg_lanes.specs.declared.end.End.{End}
use Rattle.sg_solve.specs.Searching.{IsEndOfSearch, task_of}

-- the end is that of a state at which the search by these budgets in this order ends; the first commitment's values fit
pub record IsEndHanded (g : Game) (b : Budget) (o : Order) (e : End) : Type 0 where
  pub first : IsFirst g (task_of g b o).first
  pub state : Search
  pub ended : IsEndOfSearch g b o state
  pub reads : IsEndOf (task_of g b o) state e

-- how a report ends: its bounds are the same; or they aren't, and the cause is that of the first stuck node, or where nothing is stuck that so many nodes
-- are spent
abbrev pub EndsBy : Fraction → Fraction → Option Cause → ℕ → Ending → Type 0
EndsBy value upper stuck nodes Optimal = value ≡ upper
EndsBy value upper stuck nodes (Gap why) = (value ≢ upper) × (why ≡ unwrap_or stuck (cause.Nodes nodes))
