use Rattle.sg_bounds.proofs.RowOrder.{rows_in_order}
use Rattle.sg_bounds.proofs.fact_laws.rows_in_order.Goals as goal

pub returns : goal.returns
returns c = rows_in_order
