use Rattle.sg_cli.proofs.RosterPairs.{solved_is_rostered}
use Rattle.sg_cli.proofs.laws.solved_is_rostered.Goals as goal

pub returns : goal.returns
returns c = solved_is_rostered
