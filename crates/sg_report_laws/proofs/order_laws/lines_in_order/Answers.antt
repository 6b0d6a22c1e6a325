use Rattle.sg_report_laws.proofs.LineOrder.{lines}
use Rattle.sg_report_laws.proofs.order_laws.lines_in_order.Goals as goal

pub returns : goal.returns
returns c = lines
