use Rattle.std.proofs.Common.{◌≡◌, map, take}
use Rattle.sg_bounds.specs.Coverage.{column_cost}
use Rattle.sg_eraser.specs.TableValues.{meant_column}
use Rattle.sg_eraser.proofs.costs.costs.Given as goal

abbrev pub invariant-loop-column : goal.invariant-loop-column
invariant-loop-column l = l.costs ≡ map (λ c. column_cost l.game l.fix (meant_column c)) (take l.column-index l.columns)
