use Rattle.sg_programs.proofs.CoverTickets.{region_is_allowed}
use Rattle.sg_programs.proofs.cover_laws.region_is_allowed.Goals as goal

pub returns : goal.returns
returns c = region_is_allowed
