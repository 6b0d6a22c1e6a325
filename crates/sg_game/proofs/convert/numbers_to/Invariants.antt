use Rattle.std.proofs.Common.{◌≡◌}
use Rattle.sg_model.specs.Sums.{numbers}
use Rattle.sg_game.proofs.convert.numbers_to.Given as goal

abbrev pub invariant-loop-k : goal.invariant-loop-k
invariant-loop-k l = l.items ≡ numbers l.k
