use Rattle.sg_programs.proofs.Multipliers.{marks_rise}
use Rattle.sg_programs.proofs.fact_laws.marks_rise.Goals as goal

pub returns : goal.returns
returns c = marks_rise
