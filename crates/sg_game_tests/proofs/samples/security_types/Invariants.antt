use Rattle.std.proofs.Common.{All}
use Rattle.sg_game.specs.Building.{IsSecurityParts}
use Rattle.sg_game_tests.proofs.samples.security_types.Given as goal

abbrev pub invariant-loop-name : goal.invariant-loop-name
invariant-loop-name l = All IsSecurityParts l.types.items
