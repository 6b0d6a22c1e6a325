use Rattle.sg_programs.proofs.Multipliers.{final_is_fact}
use Rattle.sg_programs.proofs.fact_laws.final_is_fact.Goals as goal

pub returns : goal.returns
returns c = final_is_fact
