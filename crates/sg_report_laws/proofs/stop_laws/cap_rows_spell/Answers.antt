use Rattle.sg_report_laws.proofs.CapRows.{cap_rows_spell}
use Rattle.sg_report_laws.proofs.stop_laws.cap_rows_spell.Goals as goal

pub returns : goal.returns
returns c = cap_rows_spell
