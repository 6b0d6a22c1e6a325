use Rattle.sg_document_laws.proofs.Spelled.{document_of_game}
use Rattle.sg_document_laws.proofs.document_of_game.Goals as goal

pub returns : goal.returns
returns c = document_of_game
