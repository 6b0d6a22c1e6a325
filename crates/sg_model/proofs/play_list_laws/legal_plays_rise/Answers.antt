use Rattle.sg_model.proofs.LegalPlays.{legal_plays_rise}
use Rattle.sg_model.proofs.play_list_laws.legal_plays_rise.Goals as goal

pub returns : goal.returns
returns c = legal_plays_rise
