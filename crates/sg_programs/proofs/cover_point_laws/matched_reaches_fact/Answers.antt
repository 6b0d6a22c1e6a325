use Rattle.sg_programs.proofs.CoverReaches.{matched_reaches_fact}
use Rattle.sg_programs.proofs.cover_point_laws.matched_reaches_fact.Goals as goal

pub returns : goal.returns
returns c = matched_reaches_fact
