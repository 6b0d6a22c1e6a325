-- Words of `make`.
use Rattle.std.proofs.Common.{refl}
use Rattle.sg_words.specs.Words.{pieces_of}
use Rattle.sg_words.specs.WorkedCommands.{WorkedMakes}

pub worked_makes : WorkedMakes
unfolding pieces_of
worked_makes = record {
  least = refl;
  greatest = refl;
  any_text = refl;
  past = refl;
  leading_zero = refl;
  empty = refl;
  signed = refl;
  signed_behind = refl;
  few = refl;
  many = refl;
  option = refl;
}
