use Rattle.sg_game_text_laws.proofs.Whole.{game_text_is_document}
use Rattle.sg_game_text_laws.proofs.game_text_is_document.Goals as goal

pub returns : goal.returns
returns c = game_text_is_document
