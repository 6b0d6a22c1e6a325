use Rattle.sg_split.proofs.CutExamples.{cuts_worked}
use Rattle.sg_split.proofs.laws.cut_places_are_worked.Goals as goal

pub returns : goal.returns
returns c = cuts_worked
