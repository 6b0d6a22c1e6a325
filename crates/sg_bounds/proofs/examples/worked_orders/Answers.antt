use Rattle.sg_bounds.proofs.WorkedOrders.{worked_orders}
use Rattle.sg_bounds.proofs.examples.worked_orders.Goals as goal

pub returns : goal.returns
returns c = worked_orders
