-- Words of the program's own command with many options.
use Rattle.std.proofs.Common.{refl}
use Rattle.sg_words.specs.Words.{pieces_of}
use Rattle.sg_words.specs.WorkedCommands.{WorkedSolves}

pub worked_solves : WorkedSolves
unfolding pieces_of
worked_solves = record {
  default = refl;
  nodes = refl;
  most_nodes = refl;
  no_nodes = refl;
  past_nodes = refl;
  pivots = refl;
  most_pivots = refl;
  no_pivots = refl;
  past_pivots = refl;
  looks = refl;
  most_looks = refl;
  no_looks = refl;
  past_looks = refl;
  listed = refl;
  automatic = refl;
  other_family = refl;
  in_file_order = refl;
  best_first = refl;
  seeded = refl;
  other_order = refl;
  lanes = refl;
  no_lanes = refl;
  past_lanes = refl;
  twice = refl;
  no_game = refl;
  two_games = refl;
}
