-- Words of the program's own command with an option.
use Rattle.std.proofs.Common.{refl}
use Rattle.sg_words.specs.Words.{pieces_of}
use Rattle.sg_words.specs.WorkedCommands.{WorkedRosters}

pub worked_rosters : WorkedRosters
unfolding pieces_of
worked_rosters = record {
  default = refl;
  apart = refl;
  joined = refl;
  least = refl;
  greatest = refl;
  past = refl;
  signed = refl;
  leading_zero = refl;
  empty = refl;
  twice = refl;
  front = refl;
  few = refl;
}
