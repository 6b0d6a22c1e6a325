-- Lines of reports read by computation.
use Rattle.std.proofs.Common.{refl}
use Rattle.sg_cert.specs.Fields.{numbers_of, shaped_if, spelled_of, words_of}
use Rattle.sg_cert.specs.LineReading.{fix_of, gap_of, mark_of, pivots_of, multiplier_of, split_of}
use Rattle.sg_cert.specs.Reading.{deep_from}
use Rattle.sg_report_laws.specs.WorkedLines.{WorkedLines}

pub worked : WorkedLines
unfolding mark_of multiplier_of shaped_if words_of spelled_of numbers_of gap_of pivots_of fix_of split_of deep_from
worked = record {
  next_mark = refl;
  same_mark = refl;
  next_row = refl;
  same_row = refl;
  unspelled_count = refl;
  negative_count = refl;
  no_count = refl;
  other_fact = λ p. refl;
  wrong_ninth = λ p. refl;
  ninth = λ p. refl;
}
