use Rattle.std.proofs.Common.{◌≡◌, flat_map, length, map}
use Rattle.sg_model.specs.Games.{resource_schedules}
use Rattle.sg_model.specs.Sums.{numbers}
use Rattle.sg_bounds.specs.Coverage.{chooses}
use Rattle.sg_eraser.specs.TableValues.{meant_column}
use Rattle.sg_eraser.proofs.columns.choice_columns.Given as goal

abbrev pub invariant-loop-k : goal.invariant-loop-k
invariant-loop-k l = map meant_column l.columns ≡ flat_map (λ r. map (chooses r) (numbers (length (resource_schedules l.game r)))) (numbers l.k)
