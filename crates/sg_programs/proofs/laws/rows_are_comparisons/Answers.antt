use Rattle.sg_programs.proofs.Comparisons.{rows_are_comparisons}
use Rattle.sg_programs.proofs.laws.rows_are_comparisons.Goals as goal

pub returns : goal.returns
returns c = rows_are_comparisons
