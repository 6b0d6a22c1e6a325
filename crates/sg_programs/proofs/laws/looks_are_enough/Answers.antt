use Rattle.sg_programs.proofs.Looks.{looks_enough}
use Rattle.sg_programs.proofs.laws.looks_are_enough.Goals as goal

pub returns : goal.returns
returns c = looks_enough
