-- The ranges of what may be chosen about a search.
use Rattle.std.specs.Prelude.{ℕ, ◌≤◌}
use Rattle.sg_options.specs.declared.budget.Budget.{Budget}
use Rattle.sg_options.specs.declared.order.Order.{Order}

-- a budget in its ranges
pub record IsBudget (b : Budget) : Type 0 where
  pub some_nodes : 1 ≤ b.nodes
  pub most_nodes : b.nodes ≤ 1000000
  pub some_pivots : 1 ≤ b.pivots
  pub most_pivots : b.pivots ≤ 1000000000
  pub some_looks : 1 ≤ b.looks
  pub most_looks : b.looks ≤ 1000000000000000000

-- an order in its ranges
pub record IsOrder (o : Order) : Type 0 where
  pub some_lanes : 1 ≤ o.lanes
  pub most_lanes : o.lanes ≤ 8
