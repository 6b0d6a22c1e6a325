use Rattle.sg_programs.proofs.ListedPlays.{listing_is_method}
use Rattle.sg_programs.proofs.node_laws.listing_is_method.Goals as goal

pub returns : goal.returns
returns c = listing_is_method
