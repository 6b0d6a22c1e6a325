use Rattle.std.proofs.Common.{◌≡◌, map}
use Rattle.sg_model.specs.Sums.{numbers}
use Rattle.sg_game.specs.Counts.{patrol_name}
use Rattle.sg_game.proofs.convert.names_to.Given as goal

abbrev pub invariant-loop-k : goal.invariant-loop-k
invariant-loop-k l = l.names ≡ map patrol_name (numbers l.k)
