-- The program over the coverage table, and a point of one, are those worked out by hand.
use Rattle.std.proofs.Common.{refl}
use Rattle.sg_programs.specs.CoverExamples.{WorkedCover, WorkedPoint}

pub worked_cover : WorkedCover
worked_cover = record {
  columns_are = refl;
  whole = record { cost_is = refl; entries_are = refl };
  first_choice = record { cost_is = refl; entries_are = refl };
  second_choice = record { cost_is = refl; entries_are = refl };
  third_choice = record { cost_is = refl; entries_are = refl };
  first_target = record { cost_is = refl; entries_are = refl };
  second_target = record { cost_is = refl; entries_are = refl };
  lines = refl;
}

pub worked_point : WorkedPoint
worked_point = record { fact = refl; whole = refl; always_is = refl; choice_is = refl; target_is = refl; asked_is = refl }
