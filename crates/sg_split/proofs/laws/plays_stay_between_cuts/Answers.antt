use Rattle.sg_split.proofs.CutPlaces.{plays_stay}
use Rattle.sg_split.proofs.laws.plays_stay_between_cuts.Goals as goal

pub returns : goal.returns
returns c = plays_stay
