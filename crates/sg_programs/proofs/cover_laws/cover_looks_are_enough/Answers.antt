use Rattle.sg_programs.proofs.CoverFacts.{cover_looks_are_enough}
use Rattle.sg_programs.proofs.cover_laws.cover_looks_are_enough.Goals as goal

pub returns : goal.returns
returns c = cover_looks_are_enough
