use Rattle.std.proofs.Common.{All}
use Rattle.sg_game.specs.Building.{IsSecurityParts}
use Rattle.sg_game_tests.proofs.limits.alike_types.Given as goal

abbrev pub invariant-loop-k : goal.invariant-loop-k
invariant-loop-k l = All IsSecurityParts l.types.items
