use Rattle.std.proofs.Common.{◌≡◌, map}
use Rattle.std.specs.List.{filter}
use Rattle.sg_model.specs.Sums.{numbers}
use Rattle.sg_bounds.specs.Coverage.{gains}
use Rattle.sg_programs.proofs.Comparisons.{apart}
use Rattle.sg_eraser.specs.TableValues.{meant_row}
use Rattle.sg_eraser.proofs.rows.type_rows.Given as goal

abbrev pub invariant-loop-k : goal.invariant-loop-k
invariant-loop-k l = map meant_row l.rows ≡ map (gains l.l) (filter (apart l.own) (numbers l.k))
