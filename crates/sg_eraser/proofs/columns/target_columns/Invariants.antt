use Rattle.std.proofs.Common.{◌≡◌, map}
use Rattle.sg_model.specs.Sums.{numbers}
use Rattle.sg_bounds.specs.Coverage.{covering}
use Rattle.sg_eraser.specs.TableValues.{meant_column}
use Rattle.sg_eraser.proofs.columns.target_columns.Given as goal

abbrev pub invariant-loop-k : goal.invariant-loop-k
invariant-loop-k l = map meant_column l.columns ≡ map covering (numbers l.k)
