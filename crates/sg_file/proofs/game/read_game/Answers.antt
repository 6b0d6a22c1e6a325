use Rattle.sg_game.specs.Seen.{game_of}
use Rattle.sg_format.proofs.Accepted.{accepted}
use Rattle.sg_file.proofs.game.read_game.Goals as goal

pub made-requires : goal.made-requires
made-requires c = accepted c.args.bytes.now (game_of c.in_ok-parts.parts) c.in_ok-parts.ensures
