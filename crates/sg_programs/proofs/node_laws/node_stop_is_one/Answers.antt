use Rattle.sg_programs.proofs.NodeEnds.{closed_is_not_stopped, node_stop_is_one}
use Rattle.sg_programs.proofs.node_laws.node_stop_is_one.Goals as goal

pub returns : goal.returns
returns c = record { one = node_stop_is_one; none = closed_is_not_stopped }
