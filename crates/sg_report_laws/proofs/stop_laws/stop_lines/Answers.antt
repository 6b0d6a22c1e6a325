use Rattle.sg_report_laws.proofs.Stops.{stop_lines}
use Rattle.sg_report_laws.proofs.stop_laws.stop_lines.Goals as goal

pub returns : goal.returns
returns c = stop_lines
