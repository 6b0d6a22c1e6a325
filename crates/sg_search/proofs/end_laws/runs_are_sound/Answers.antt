use Rattle.sg_search.proofs.Reported.{runs_are_sound}
use Rattle.sg_search.proofs.end_laws.runs_are_sound.Goals as goal

pub returns : goal.returns
returns c = runs_are_sound
