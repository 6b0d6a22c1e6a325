use Rattle.sg_model.proofs.LegalPlays.{plays_are_counted}
use Rattle.sg_model.proofs.play_list_laws.plays_are_counted.Goals as goal

pub returns : goal.returns
returns c = plays_are_counted
