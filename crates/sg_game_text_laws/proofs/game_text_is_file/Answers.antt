use Rattle.sg_game_text_laws.proofs.Whole.{game_text_is_file}
use Rattle.sg_game_text_laws.proofs.game_text_is_file.Goals as goal

pub returns : goal.returns
returns c = game_text_is_file
