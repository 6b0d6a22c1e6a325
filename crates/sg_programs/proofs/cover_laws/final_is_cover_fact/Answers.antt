use Rattle.sg_programs.proofs.CoverFacts.{final_is_cover_fact}
use Rattle.sg_programs.proofs.cover_laws.final_is_cover_fact.Goals as goal

pub returns : goal.returns
returns c = final_is_cover_fact
