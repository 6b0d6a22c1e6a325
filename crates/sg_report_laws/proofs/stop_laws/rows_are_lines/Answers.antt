use Rattle.sg_report_laws.proofs.RowLines.{rows_are_lines}
use Rattle.sg_report_laws.proofs.stop_laws.rows_are_lines.Goals as goal

pub returns : goal.returns
returns c = rows_are_lines
