use Rattle.sg_matchings.proofs.Perfect.{search_succeeds}
use Rattle.sg_matchings.proofs.laws.paths_are_found.Goals as goal

pub returns : goal.returns
returns c = search_succeeds
