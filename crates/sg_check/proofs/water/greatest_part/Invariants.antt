use Rattle.std.proofs.Common.{◌≡◌, map}
use Rattle.std.specs.List.{filter}
use Rattle.sg_model.specs.Sums.{numbers}
use Rattle.sg_check.specs.Watering.{greatest_in, part}
use Rattle.sg_check.proofs.Watered.{level_test_at}
use Rattle.sg_check.proofs.water.greatest_part.Given as goal

-- the greatest part of the targets so far
abbrev pub invariant-loop-i : goal.invariant-loop-i
invariant-loop-i l = l.best ≡ greatest_in (map (part l.game l.level) (filter (level_test_at l.game l.level.num l.level.den) (numbers l.i)))
