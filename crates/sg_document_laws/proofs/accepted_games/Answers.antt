use Rattle.sg_document_laws.proofs.Spelled.{accepted_games}
use Rattle.sg_document_laws.proofs.accepted_games.Goals as goal

pub returns : goal.returns
returns c = accepted_games
