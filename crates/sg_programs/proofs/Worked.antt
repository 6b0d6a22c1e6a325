-- The programs of small games are those worked out by hand.
use Rattle.std.proofs.Common.{refl}
use Rattle.sg_programs.specs.Examples.{WorkedPrograms}

pub worked_programs : WorkedPrograms
worked_programs = record {
  first_action = record { plays_are = refl; costs_are = refl; entries_are = refl };
  second_action = record { plays_are = refl; costs_are = refl; entries_are = refl };
  both_types = record { plays_are = refl; costs_are = refl; entries_are = refl };
  cap = record { plays_are = refl; costs_are = refl; entries_are = refl };
  second_fact = refl;
  zeros_left_out = refl;
  size = refl;
  bounds = refl;
  bounds_of_open = refl;
  no_bounds_of_cap = refl;
  point = refl;
  nodes_of_one = refl;
  nodes_of_two = refl;
  looks_of_rows = refl;
  looks_of_schedules = refl;
  pivots = refl;
}
